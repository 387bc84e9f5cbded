-- Laws of the square root that belong to no one function.
pub mod Squares
pub mod Scales
pub mod SquareRoot
pub mod Examples
