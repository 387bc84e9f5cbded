-- The outcome of a call.
pub mod Whole
