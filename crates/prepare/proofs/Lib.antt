-- Laws of preparing.
pub mod Stored
pub mod Opened
pub mod Accepted
