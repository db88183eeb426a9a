pub mod Laws
pub mod Tested
