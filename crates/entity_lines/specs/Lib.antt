pub mod Heads
pub mod Items
pub mod Laws
pub mod Resources
pub mod Values
