-- The laws of the definitions in specs/.
pub mod Over
pub mod Parts
pub mod Alike
pub mod Ends
pub mod OwnedState
pub mod ReturnedIn
