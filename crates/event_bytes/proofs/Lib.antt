-- The laws of events in bytes.
pub mod Encoding
pub mod Chunks
