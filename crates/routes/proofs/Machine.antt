pub mod Turns
pub mod Pieces
