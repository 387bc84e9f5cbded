-- The scan of a search.
pub mod Scan
pub mod Bar
pub mod Far
pub mod Ahead
