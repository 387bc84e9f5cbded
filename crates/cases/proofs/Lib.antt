-- Document 01's lettered cases.
pub mod Cases
