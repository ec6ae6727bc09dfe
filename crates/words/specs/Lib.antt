pub mod Address
pub mod Slots
