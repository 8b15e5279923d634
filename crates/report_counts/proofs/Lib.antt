-- The laws of the definitions in specs/.
pub mod Opened
pub mod Follows
pub mod Tallied
pub mod ReturnedOne
pub mod FinishedSomehow
pub mod Finishes
pub mod Adds
pub mod Running
pub mod Objects
pub mod Sums
pub mod Theorem
pub mod Program
pub mod Examples
