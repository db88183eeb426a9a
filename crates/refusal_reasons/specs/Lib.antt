pub mod Causes
pub mod Facts
pub mod Laws
pub mod Texts
