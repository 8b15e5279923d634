-- What each line of a replay does and prints.
pub mod Session
pub mod Trusting
