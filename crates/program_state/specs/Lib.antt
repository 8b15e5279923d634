-- What a program keeps between two lines, and what a line does to it.
pub mod State
pub mod Take
pub mod Trusting
