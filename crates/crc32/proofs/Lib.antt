pub mod Xor
pub mod Tab
pub mod Linear
pub mod Words
pub mod Fits
