-- Events in bytes, and their answers as numbers.
pub mod Encoding
pub mod Answer
