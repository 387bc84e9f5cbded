-- How a call past its tests ends.
pub mod Ends
