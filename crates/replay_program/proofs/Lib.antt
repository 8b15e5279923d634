-- Laws of the program.
pub mod Counts
pub mod Written
pub mod Draining
pub mod Taking
pub mod ReadSoFar
pub mod EndedRuns
