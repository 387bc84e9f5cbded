-- Bounds, refusals, metric, configuration, model and vector, as document 01 and config.rs have them.
pub mod Limits
pub mod Refusal
pub mod Told
pub mod Metric
pub mod Space
pub mod Vector
