-- The lemmas of the crate.
pub mod Ring
pub mod Lists
pub mod Bounds
pub mod Dots
pub mod Widths
pub mod Sums
pub mod Floors
