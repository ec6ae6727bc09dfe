pub mod Trees
pub mod Edits
pub mod Nodes
pub mod Walks
pub mod Good
