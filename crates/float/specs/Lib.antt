-- IEEE 754 numbers as document 01 uses them.
pub mod Values
pub mod Hold
pub mod Order
