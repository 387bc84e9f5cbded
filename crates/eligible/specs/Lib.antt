-- A cursor in the sorted ids that finds the eligible rows.
pub mod Walk
