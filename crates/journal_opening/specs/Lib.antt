pub mod Journals
pub mod Laws
pub mod Opening
pub mod Playing
pub mod Snapshots
