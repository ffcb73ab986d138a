-- The definitions of the crate.
pub mod Certificates
pub mod Faults
pub mod Sound
pub mod Tests
