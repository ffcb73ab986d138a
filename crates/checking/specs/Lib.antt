-- The definitions of the crate.
pub mod Checking
pub mod Forms
pub mod Marks
pub mod Reports
pub mod Trusted
