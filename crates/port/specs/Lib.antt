pub mod Replies
pub mod Turns
pub mod Fields
pub mod Registers
pub mod Names
