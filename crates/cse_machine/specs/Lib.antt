pub mod Answer
pub mod Heard
pub mod Step
pub mod History
