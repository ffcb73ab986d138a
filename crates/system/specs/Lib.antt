-- The definitions of the crate.
pub mod Bridge
pub mod Answers
pub mod Filled
pub mod Systems
