-- The lemmas of the crate.
pub mod Adding
pub mod Columns
pub mod Faced
pub mod Farkas
pub mod Found
pub mod Outcomes
pub mod Soundness
pub mod Tested
pub mod Turns
