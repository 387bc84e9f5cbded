-- The rows of a library, as preparing and building encode them.
pub mod Rows
