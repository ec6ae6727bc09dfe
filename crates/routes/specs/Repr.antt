pub mod Repr
pub mod Images
pub mod Laws
