pub mod Trees
pub mod Edits
pub mod Walks
pub mod Laws
