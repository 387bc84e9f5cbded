-- What building refuses, and what it leaves.
pub mod Build
