-- What a manifest is refused for, and what it is accepted as.
pub mod Tiling
pub mod Scratch
pub mod Check
