-- The laws of tables.
pub mod Records
pub mod Places
pub mod Walks
pub mod FreshTables
pub mod OwnedTables
pub mod Operations
pub mod Narrowed
