-- Laws of the answers.
pub mod Narrow
pub mod Said
