-- The laws of the definitions in specs/.
pub mod Ranks
pub mod RankRules
pub mod RankMoves
pub mod Counting
pub mod EveryEvent
pub mod Schedules
pub mod Reached
