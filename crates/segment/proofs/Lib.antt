-- Laws of records and segments.
pub mod Places
pub mod RecordLaws
pub mod LibraryLaws
pub mod Found
