pub mod Changes
pub mod Codes
pub mod Shown
pub mod Tree
