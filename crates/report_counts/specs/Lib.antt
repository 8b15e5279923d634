-- What the report's figures are, counted from the events of its lines.
pub mod Enters
pub mod Report
pub mod Examples
