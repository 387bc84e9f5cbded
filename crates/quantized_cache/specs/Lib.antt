-- The size of a library's cache, and what opening a cache answers.
pub mod Size
pub mod Open
