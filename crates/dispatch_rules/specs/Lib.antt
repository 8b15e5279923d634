-- Scripts, what a thread does when it may take a step, the run, what is claimed of it, and examples.
pub mod Script
pub mod Attempt
pub mod Dispatch
pub mod Claims
pub mod Examples
