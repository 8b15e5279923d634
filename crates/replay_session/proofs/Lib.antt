-- The laws of sessions.
pub mod OwnedSession
pub mod Over
