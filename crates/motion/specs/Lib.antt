-- The definitions of the crate.
pub mod Moves
pub mod Tests
