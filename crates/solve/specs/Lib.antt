-- The definitions of the crate.
pub mod Solving
pub mod Promise
