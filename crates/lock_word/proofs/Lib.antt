-- The laws of lock words.
pub mod KindTable
pub mod RoundTrip
pub mod Owning
pub mod Cases
