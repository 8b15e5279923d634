-- Laws of the definitions in specs/.
pub mod Chained
pub mod Reading
pub mod Marks
pub mod OnePassTurns
pub mod OnePass
pub mod Exactly
