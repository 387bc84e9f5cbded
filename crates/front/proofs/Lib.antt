-- The tests of ids and head.
pub mod Opens
