-- The lemmas of the crate.
pub mod Cuts
pub mod Exact
pub mod Indices
pub mod Judging
pub mod Lining
pub mod Marking
pub mod Measuring
pub mod Numbers
pub mod Proving
pub mod Trusting
