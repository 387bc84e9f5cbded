-- Laws of the cache's definitions.
pub mod Sizes
pub mod Parts
pub mod Opens
