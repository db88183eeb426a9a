pub mod Quiet
pub mod Updating
