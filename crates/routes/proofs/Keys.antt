pub mod Nibs
pub mod Place
pub mod Apart
pub mod Prefixes
