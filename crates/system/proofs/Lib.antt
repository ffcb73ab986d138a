-- The lemmas of the crate.
pub mod Rows
pub mod Bridged
pub mod Stored
pub mod Limits
pub mod Counts
pub mod Outcomes
pub mod Places
pub mod Filling
pub mod Groups
