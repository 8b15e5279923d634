-- The bytes of a table: which byte is which, what bytes say, and the bytes of a table.
pub mod Rows
pub mod ThreadBytes
pub mod ObjectBytes
pub mod Layout
pub mod Reading
pub mod Writing
