-- The laws of chains: one chain, its tests, one turn of each walk, a walk that changes records, all chains at once, one of them changed or parted, and the actions on them.
pub mod Listed
pub mod Test
pub mod Turn
pub mod Walk
pub mod Family
pub mod Relink
pub mod Queue
pub mod Falling
pub mod Ahead
pub mod Parting
pub mod Links
