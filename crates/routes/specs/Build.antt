pub mod Reads
pub mod Writes
pub mod Stages
pub mod Checks
pub mod Laws
