-- What a step does to the table's records, in document 01's words.
pub mod State
pub mod Sight
pub mod ThreadSet
pub mod Parting
pub mod Queueing
pub mod Moving
pub mod Perform
pub mod InPlace
