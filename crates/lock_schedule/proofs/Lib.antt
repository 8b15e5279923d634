-- Demand 3 of the engine, from demand 3 over tables with lists; that a sound table stays sound; and the runs of encoded schedules.
pub mod EngineKind
pub mod RepresentedWellTyped
pub mod Theorem
pub mod Interpreter
pub mod InTurn
pub mod Answers
pub mod MutualExclusion
pub mod Steps
pub mod StepsReached
pub mod Runs
