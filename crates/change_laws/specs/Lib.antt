pub mod Groups
pub mod Served
