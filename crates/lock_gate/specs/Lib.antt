-- What the gate looks at.
pub mod Status
