-- The manifest: its fields, the tests of its head and segments, and what a search compares.
pub mod Order
pub mod Fields
pub mod Head
pub mod Layout
pub mod Same
