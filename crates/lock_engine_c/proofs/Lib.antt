-- Laws of what the calls write and answer.
pub mod FreshWritten
pub mod EventTurns
pub mod FullTables
pub mod RefusedBytes
pub mod Runs
pub mod RunBytes
