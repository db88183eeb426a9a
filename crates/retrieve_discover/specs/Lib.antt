pub mod Conditions
pub mod Asked
pub mod Descendants
pub mod Findings
pub mod Contents
pub mod Replies
pub mod Polling
