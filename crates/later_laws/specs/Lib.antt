pub mod Turns
pub mod Sights
pub mod Sizes
pub mod Laws
pub mod Once
