pub mod Sort
pub mod Limit
pub mod Rows
pub mod Order
pub mod Pairs
pub mod Heap
