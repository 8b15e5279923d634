-- The laws of the definitions in specs/.
pub mod Stores
pub mod Lengths
pub mod Room
pub mod Shares
