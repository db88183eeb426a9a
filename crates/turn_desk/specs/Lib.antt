pub mod Entries
pub mod Growth
pub mod Joins
pub mod Shared
pub mod Growing
pub mod Seats
