-- Laws that belong to no one function.
pub mod BitLaws
pub mod Patterns
pub mod Keys
pub mod Total
pub mod Within
pub mod Bounds
pub mod Singles
pub mod Additions
pub mod Numbers
pub mod Quads
