-- What the report counts and prints, in document 02's words.
pub mod Way
pub mod Tally
pub mod Rows
