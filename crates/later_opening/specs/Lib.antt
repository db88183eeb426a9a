pub mod Acts
pub mod Journals
pub mod Laws
pub mod Making
pub mod Numbers
pub mod Opening
pub mod Playing
pub mod Snapshots
