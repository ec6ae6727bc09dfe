pub mod Nows
pub mod Steps
pub mod Laws
