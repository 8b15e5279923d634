-- What the core computes on records, and the turns and rounds of a run as one loop takes them.
pub mod Records
pub mod Position
