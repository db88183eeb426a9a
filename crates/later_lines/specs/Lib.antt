pub mod Keeping
pub mod Laws
pub mod Spelled
pub mod Words
