pub mod Nodes
pub mod Trails
pub mod Images
pub mod Edits
pub mod Written
