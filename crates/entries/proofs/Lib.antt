-- What the rules of segments and entries say.
pub mod Entries
