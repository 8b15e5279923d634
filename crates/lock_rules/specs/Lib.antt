-- What a step decides, and the plain monitors that it must agree with: document 01, "Steps" and "Plain monitors".
pub mod Operations
pub mod Limits
pub mod Numbers
pub mod Actions
pub mod Rules
pub mod Gate
pub mod Events
pub mod RunQueue
pub mod PlainMonitor
pub mod Feed
pub mod Presence
