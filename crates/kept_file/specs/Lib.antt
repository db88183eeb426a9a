pub mod Crashes
pub mod FileFault
pub mod Memory
