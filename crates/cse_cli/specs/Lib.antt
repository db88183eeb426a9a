pub mod Run
pub mod Serve
pub mod Devices
pub mod Running
