-- How many steps a thread takes of its own, in any schedule.
pub mod SixSteps
pub mod Starts
pub mod Reached
