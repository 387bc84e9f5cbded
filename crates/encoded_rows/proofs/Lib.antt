-- Laws of a library's rows.
pub mod Written
pub mod Ordered
