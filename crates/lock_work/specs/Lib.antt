-- What the work of an event does to the table besides its two records: a rule's on chains, and a tick of the clock.
pub mod WorkDone
pub mod Waiters
pub mod Tick
pub mod Work
