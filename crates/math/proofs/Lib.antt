-- Laws that belong to no one function.
pub mod Folds
pub mod Fours
pub mod Totals
pub mod Distances
