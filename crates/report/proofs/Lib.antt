pub mod Rendering
pub mod Room
pub mod Spacing
pub mod Writing
