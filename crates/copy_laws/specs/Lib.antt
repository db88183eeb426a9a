pub mod Following
pub mod Replica
pub mod Standing
