-- The lemmas of the crate.
pub mod Columns
pub mod Divisors
pub mod Exact
pub mod Mixed
pub mod Pairs
pub mod Passing
pub mod Propers
pub mod Signs
pub mod Standing
