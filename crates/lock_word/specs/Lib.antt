-- What lock words are, in document 01's words.
pub mod Depth
pub mod Ticks
pub mod Layout
pub mod Read
pub mod Write
pub mod Meaning
pub mod KindTable
pub mod Cases
