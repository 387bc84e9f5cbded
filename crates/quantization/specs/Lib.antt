-- Encoded rows.
pub mod View
pub mod Encoder
pub mod Walk
