-- The square root as document 01 defines it.
pub mod SquareRoot
