pub mod Run
pub mod Snapshot
