-- A search: what is lent to it, its tests in their order, its lists, its outcome.
pub mod Lent
pub mod Tests
pub mod Lists
pub mod Scan
pub mod Outcome
pub mod Kept
