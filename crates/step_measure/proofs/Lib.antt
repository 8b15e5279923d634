-- A measure of tables, and that every step lowers it.
pub mod Sums
pub mod Weights
pub mod WeightRules
pub mod WeightMoves
pub mod WeightTables
pub mod Theorem
