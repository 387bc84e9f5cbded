pub mod Far
pub mod ScanLaws
pub mod Going
