-- What preparing a cache refuses, stores and answers.
pub mod Prepare
