-- The candidates of a search, scanned and reranked, and their agreement with all eligible rows.
pub mod Shortlist
