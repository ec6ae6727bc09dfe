pub mod Plain
pub mod Numerals
pub mod Sentences
pub mod Pieces
pub mod Commands
