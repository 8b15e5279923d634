-- The examples hold of the definitions, by computing them.
pub mod Holds
pub mod DispatchingHolds
pub mod ProgramsHold
