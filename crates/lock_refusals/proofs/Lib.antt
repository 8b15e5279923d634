-- Demand 1 of the engine's definitions.
pub mod Rows
pub mod GateRows
pub mod RuleEnds
pub mod StepEnds
pub mod IdleAgain
pub mod Ended
pub mod Steps
pub mod Theorem
pub mod FreshAndRuns
pub mod Interpreter
