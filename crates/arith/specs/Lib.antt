-- The definitions of the crate.
pub mod Bounds
pub mod Products
