-- Laws of the core.
pub mod OperationsLeft
pub mod Positions
pub mod Measure
pub mod InPlace
