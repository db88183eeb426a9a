pub mod Binding
pub mod Laws
pub mod Memory
pub mod Payloads
pub mod Talk
pub mod Talker
pub mod Way
