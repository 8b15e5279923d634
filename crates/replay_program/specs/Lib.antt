-- What the program's functions promise of the values that they pass on.
pub mod Run
pub mod Messages
