-- The definitions of the crate.
pub mod Causes
