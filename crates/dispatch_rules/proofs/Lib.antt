-- Laws of the dispatcher.
pub mod Answers
pub mod Cursors
pub mod Events
pub mod Good
pub mod Ends
pub mod Schedules
pub mod Statuses
pub mod Fair
pub mod Holds
