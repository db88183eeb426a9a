pub mod Destinations
pub mod Items
pub mod Matching
pub mod Notices
pub mod Spending
pub mod Watching
