-- Laws that belong to no one function.
pub mod Flags
pub mod Law
