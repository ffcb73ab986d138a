-- The definitions of the crate.
pub mod Cone
pub mod Search
pub mod Bounded
pub mod Theorems
