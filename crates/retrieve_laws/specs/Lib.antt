pub mod Told
pub mod Guard
