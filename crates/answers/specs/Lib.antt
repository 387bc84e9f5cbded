-- The places of listed rows, and the report.
pub mod Places
pub mod Report
