-- What a chain is, what a walk along it computes, and chains joined at their ends.
pub mod Chain
pub mod Joining
