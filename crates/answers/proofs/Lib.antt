-- The answer slices as they fill.
pub mod Places
