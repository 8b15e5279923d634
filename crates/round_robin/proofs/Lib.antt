-- Laws of turns, rounds and runs.
pub mod Machine
pub mod Runs
pub mod Served
pub mod Fairness
pub mod Positions
pub mod Holds
