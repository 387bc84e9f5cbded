-- The files of the list program, and what is wrong with them before anything in them is looked at.
pub mod Files
pub mod Parts
