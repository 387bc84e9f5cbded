-- What the list program prints, and that two refusals are not among it.
pub mod Output
