-- Turns, rounds and runs, what fairness says of them, how they end, and examples.
pub mod Dispatch
pub mod Fair
pub mod Rounds
pub mod Examples
