pub mod Laws
pub mod Opening
pub mod Reading
pub mod Snapshots
