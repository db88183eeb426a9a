pub mod Bounds
pub mod Conditions
pub mod Filters
pub mod Laws
pub mod Values
pub mod Writing
