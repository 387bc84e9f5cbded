-- The agreement count, over a list and all eligible rows.
pub mod Count
