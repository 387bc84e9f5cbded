-- Laws of the order by segment and offset, and of the rows of a segment.
pub mod Keys
pub mod Parts
pub mod Walk
pub mod Passed
pub mod Heads
