-- What a table is and what can be done to it, in document 01's words.
pub mod Limits
pub mod Operation
pub mod Phase
pub mod Record
pub mod Access
pub mod Place
pub mod WellTyped
pub mod Parked
pub mod Monitor
pub mod Chain
pub mod Fresh
pub mod Narrow
pub mod Ownership
