pub mod Values
pub mod Numbered
pub mod Gathering
pub mod Back
