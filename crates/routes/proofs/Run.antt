pub mod Nows
pub mod Waits
pub mod Leads
pub mod Steps
pub mod Keeps
pub mod Always
pub mod Make
pub mod Laws
