-- Laws of the bytes of a table.
pub mod Rows
pub mod Parts
pub mod Written
pub mod ThreadBytes
pub mod ObjectBytes
pub mod Enough
pub mod ReadBack
pub mod SameBytes
pub mod SetRecords
