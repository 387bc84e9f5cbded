-- Laws of a search: what passed tests give (Passed, Keys), what is reported (Reports), and the agreement count (Prefix, Agreement).
pub mod Passed
pub mod Reports
pub mod Keys
pub mod Prefix
pub mod Agreement
pub mod Example
pub mod Cosine
pub mod Examples
