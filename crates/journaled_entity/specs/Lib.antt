pub mod Changes
pub mod Keeping
pub mod Opened
pub mod Losses
pub mod Crashes
pub mod Written
pub mod Handing
