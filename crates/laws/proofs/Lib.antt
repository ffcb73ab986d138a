pub mod Composing
pub mod Heading
pub mod Making
pub mod Rendering
pub mod Storing
