pub mod Places
pub mod Words
pub mod Pools
pub mod Rings
pub mod Looking
pub mod Memories
pub mod Arrivals
pub mod Starts
