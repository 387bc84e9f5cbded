-- Laws that belong to no one function.
pub mod Fits
pub mod Records
pub mod Measured
pub mod Ranked
