pub mod Gate
pub mod Shares
pub mod Jobs
pub mod Shifts
pub mod Rounds
pub mod Serving
