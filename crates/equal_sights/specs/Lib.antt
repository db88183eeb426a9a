pub mod Alike
pub mod Seen
pub mod Shape
pub mod Sight
