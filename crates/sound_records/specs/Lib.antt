-- What soundness asks of one record.
pub mod Records
pub mod OnePass
