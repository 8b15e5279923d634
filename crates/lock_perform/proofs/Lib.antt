-- The laws of performing.
pub mod ThreadSets
pub mod Lengths
pub mod InPlace
pub mod PartInPlace
pub mod QueueInPlace
pub mod Staying
pub mod Performed
