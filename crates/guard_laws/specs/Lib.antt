pub mod Guard
pub mod Legal
