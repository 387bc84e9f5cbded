-- The rows that a call sees.
pub mod Seen
