-- The query as a search keeps it.
pub mod Query
