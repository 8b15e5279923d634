-- The laws of events.
pub mod InPlace
pub mod Refused
pub mod Narrow
pub mod Full
pub mod After
pub mod Cases
