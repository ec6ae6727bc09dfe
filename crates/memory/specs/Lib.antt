pub mod Words
pub mod Pools
pub mod Rings
pub mod Rows
pub mod Layouts
pub mod Memories
