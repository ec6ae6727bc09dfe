pub mod Keys
pub mod Laws
