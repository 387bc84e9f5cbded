-- Records, and what a library is refused for.
pub mod Record
pub mod Check
