-- Laws that belong to no one function.
pub mod Most
pub mod Lent
pub mod NeverShort
pub mod Listed
pub mod Admits
pub mod Answers
