pub mod Gathering
pub mod Index
pub mod Indexed
pub mod Queue
