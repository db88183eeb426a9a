pub mod Chain
pub mod Faults
pub mod Targets
pub mod Queries
pub mod Said
pub mod Seen
pub mod Laws
