-- Original distances, as document 01, math.rs and `original_distance` of generation.rs have them.
pub mod Sums
pub mod Distance
pub mod Four
