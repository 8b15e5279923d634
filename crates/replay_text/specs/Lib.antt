-- What the replay program and the report program print, in the documents' words, and what it means that it was written.
pub mod Bytes
pub mod Digits
pub mod Text
pub mod Row
pub mod Written
