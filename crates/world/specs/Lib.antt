pub mod Notes
pub mod Journals
pub mod Worlds
pub mod Replies
