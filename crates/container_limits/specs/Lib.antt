pub mod Limits
pub mod Overdue
