pub mod Calls
pub mod Structs
pub mod Begins
pub mod Turns
pub mod Processor
pub mod Plays
