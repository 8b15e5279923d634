-- What is claimed of refused events.
pub mod Rows
pub mod Refusals
pub mod Demand
pub mod Interpreter
