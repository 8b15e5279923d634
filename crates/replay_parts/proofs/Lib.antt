-- The laws of the definitions in specs/.
pub mod Turn
pub mod Taken
pub mod Passing
pub mod AnySplit
pub mod Kept
