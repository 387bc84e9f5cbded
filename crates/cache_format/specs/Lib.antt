-- A cache's size, its bytes, and the tests of its bounds, head and identity.
pub mod Cache
pub mod Sizing
pub mod Open
