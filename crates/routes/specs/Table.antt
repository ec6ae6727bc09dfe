pub mod Tables
pub mod Lookups
pub mod Laws
