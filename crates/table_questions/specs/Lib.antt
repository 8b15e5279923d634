-- What can be asked of a table, and the answers.
pub mod Questions
