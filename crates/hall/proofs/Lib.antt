pub mod Busy
pub mod Pieces
