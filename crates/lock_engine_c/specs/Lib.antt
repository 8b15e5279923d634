-- What each call makes of the bytes of a table.
pub mod Calls
pub mod Run
pub mod Dispatch
pub mod Given
