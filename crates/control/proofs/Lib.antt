-- The lemmas of the crate.
pub mod Outcomes
pub mod Meanings
pub mod FixedKnown
pub mod FixedRows
pub mod SaturatedKnown
pub mod SaturatedRows
