pub mod Collecting
pub mod Cutting
pub mod Forming
pub mod Padding
pub mod Reading
pub mod Render
pub mod Rows
