pub mod Entries
pub mod Names
pub mod Runs
pub mod Effects
pub mod Step
pub mod Answered
pub mod Sound
