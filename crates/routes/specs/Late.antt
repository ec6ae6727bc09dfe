pub mod Rows
pub mod View
pub mod Steps
pub mod Laws
