-- Records copied out and back are as they were, and a refused run leaves all that it was lent.
pub mod Copied
pub mod Refused
