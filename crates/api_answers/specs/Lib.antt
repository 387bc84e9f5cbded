-- What crosses to C as numbers, and what holds of every answer that does.
pub mod Numbers
pub mod Law
