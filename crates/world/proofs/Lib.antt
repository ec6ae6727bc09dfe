pub mod Journals
pub mod Marks
pub mod Turns
