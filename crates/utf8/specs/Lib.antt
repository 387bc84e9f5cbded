-- UTF-8 as RFC 3629 defines it.
pub mod Grammar
pub mod Utf8
