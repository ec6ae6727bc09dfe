pub mod Reads
pub mod Blocks
pub mod Writes
pub mod Turns
pub mod Loops
pub mod Stages
pub mod Checks
pub mod Full
