pub mod Moves
pub mod Lists
pub mod Plays
