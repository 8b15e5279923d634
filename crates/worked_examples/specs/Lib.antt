-- Worked examples, each a fact with a name.
pub mod Words
pub mod Chains
pub mod Records
pub mod Rules
pub mod Ticks
pub mod Ranks
pub mod LetOuts
pub mod Unparks
pub mod Lines
pub mod Rows
