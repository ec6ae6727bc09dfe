pub mod Games
pub mod Players
pub mod Stops
pub mod Told
