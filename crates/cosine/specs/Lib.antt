-- Rows that are too far under cosine.
pub mod Far
