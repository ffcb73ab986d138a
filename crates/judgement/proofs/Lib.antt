pub mod Accepting
pub mod Known
pub mod Lawful
pub mod Longer
pub mod Measured
pub mod Shapes
pub mod Sounding
