pub mod Picked
pub mod RouteLists
pub mod Longest
