pub mod Layout
pub mod Pieces
pub mod Images
pub mod Edits
pub mod Functions
