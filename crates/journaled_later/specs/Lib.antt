pub mod Crashes
pub mod Keeping
pub mod Machine
pub mod Opened
pub mod Recorded
pub mod Steps
