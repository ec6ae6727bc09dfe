pub mod Words
pub mod Written
pub mod Imaged
pub mod Edited
