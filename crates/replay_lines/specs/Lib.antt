-- What the lines of a schedule are, in document 01's words.
pub mod Bytes
pub mod Number
pub mod Grammar
pub mod Cutting
pub mod LineText
