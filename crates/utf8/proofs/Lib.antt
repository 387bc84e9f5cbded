-- Laws that belong to no one function.
pub mod Accepts
pub mod Chars
