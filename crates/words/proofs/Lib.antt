pub mod Addresses
pub mod Packing
