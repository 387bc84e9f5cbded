-- Laws that belong to no one function.
pub mod Numbers
pub mod Minus
pub mod Far
