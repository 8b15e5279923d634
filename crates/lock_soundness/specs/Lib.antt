-- When a table is sound: document 01's clauses as tests, and the order in which the code finds out.
pub mod Sound
pub mod OnePass
