-- Laws that belong to no one function.
pub mod Midpoints
pub mod Walks
pub mod Scales
pub mod Coordinates
pub mod Codes
pub mod Stores
pub mod Rows
pub mod Encoded
