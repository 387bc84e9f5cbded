-- Laws of sizing and of opening.
pub mod Sizes
pub mod Opens
pub mod Succeeds
