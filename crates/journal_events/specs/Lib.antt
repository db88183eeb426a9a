pub mod Came
pub mod Kept
pub mod Losses
pub mod Machine
pub mod Steps
