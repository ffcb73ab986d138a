-- The lemmas of the crate.
pub mod Places
pub mod Start
pub mod Completeness
pub mod Joining
pub mod Soundness
pub mod Promised
pub mod Columns
pub mod Examples
