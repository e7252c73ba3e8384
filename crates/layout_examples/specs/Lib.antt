pub mod Layouts
pub mod Memories
