-- The records lent.
pub mod Lent
