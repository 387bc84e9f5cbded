-- The entry of a row, and the tests that go before the tiling.
pub mod Entry
pub mod Plan
