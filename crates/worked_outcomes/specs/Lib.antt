-- Worked examples, each a fact with a name.
pub mod Outcomes
pub mod Dispatching
pub mod Programs
