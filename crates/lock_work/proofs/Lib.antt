-- The laws behind the code of the work.
pub mod InPlace
pub mod Worked
