-- What a replay prints of its input, and what it means that a part of the input was taken.
pub mod Replay
pub mod Part
pub mod Keeping
