-- What a line does where soundness is known, and what a turn gives.
pub mod Numbers
pub mod SoundSession
pub mod SoundState
pub mod NoEvent
pub mod InPlace
pub mod InTally
pub mod StateInPlace
pub mod TurnInPlace
pub mod Turned
