-- The lemmas of the crate.
pub mod Widths
pub mod Stored
pub mod FaceTests
pub mod Roundings
pub mod Aims
pub mod Examples
