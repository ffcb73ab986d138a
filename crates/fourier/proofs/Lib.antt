-- The lemmas of the crate.
pub mod Signs
pub mod Lists
pub mod Combining
pub mod Columns
pub mod Drops
pub mod Searches
pub mod Sources
pub mod Judging
pub mod Limited
pub mod Runs
