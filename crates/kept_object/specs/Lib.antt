pub mod Records
pub mod State
pub mod Steps
pub mod Crashing
