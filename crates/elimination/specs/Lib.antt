-- The definitions of the crate.
pub mod Columns
pub mod Divisors
pub mod Rows
pub mod Standing
pub mod Traced
