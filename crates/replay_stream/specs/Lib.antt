-- What the stream's functions promise.
pub mod Stream
