-- Proofs of the laws of a controller, which the impls cite: a law's proof stands below specs. Nothing here needs to be believed.
pub mod Few
pub mod Spread
pub mod Inputs
pub mod FixedLaws
pub mod SaturatedLaws
