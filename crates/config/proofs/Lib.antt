-- Laws that belong to no one function.
pub mod Vectors
pub mod Coordinates
pub mod Refusals
pub mod Numbers
pub mod Granted
pub mod Metrics
