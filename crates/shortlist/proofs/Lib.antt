-- Laws that belong to no one function.
pub mod Joined
pub mod Counted
