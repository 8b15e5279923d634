-- What the engine gives back for every event on every table, in document 01's words.
pub mod Outcome
pub mod Turn
pub mod Handle
pub mod Cases
