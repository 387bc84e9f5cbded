-- Laws of kept rows.
pub mod Lengths
