-- What is claimed of every schedule, and the runs of encoded ones.
pub mod Schedule
pub mod Demand
pub mod Interpreter
pub mod InTurn
pub mod Answers
pub mod MutualExclusion
pub mod StepsByStart
pub mod Runs
