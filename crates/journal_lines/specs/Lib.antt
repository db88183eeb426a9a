pub mod Header
pub mod Keeping
pub mod Laws
pub mod Lines
pub mod Spelled
pub mod Primitive
