pub mod Attributes
pub mod Codes
pub mod Home
pub mod Parts
pub mod Resource
pub mod SameRows
