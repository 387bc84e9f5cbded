pub mod Lists
pub mod Examples
