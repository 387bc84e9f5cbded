-- Laws of resident building.
pub mod Rows
pub mod Answers
pub mod Theorems
