-- What demand 3 says of a table of records and the plain monitors, what a thread parked inside an exit waits for, who was unparked, and
-- an object that is as new.
pub mod Agrees
pub mod Unparked
pub mod ExitsWait
pub mod AsNew
