-- The definitions of the crate.
pub mod Meaning
pub mod Means
pub mod Limits
pub mod Cover
pub mod Answers
pub mod Lines
pub mod PerInput
pub mod Fixed
pub mod Saturated
pub mod Held
-- proofs of the laws of a controller
pub mod Lawful
