-- Demands 2 and 3: their words, and what they say.
pub mod Words
pub mod Library
pub mod Limit
pub mod Demand
