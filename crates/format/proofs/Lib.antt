-- Laws of the manifest's definitions.
pub mod First
pub mod Refusals
pub mod Heads
pub mod Same
