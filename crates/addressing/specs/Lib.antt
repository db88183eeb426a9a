pub mod Addresses
pub mod Laws
pub mod Names
pub mod Short
pub mod Segments
