pub mod Order
pub mod Sight
pub mod Asked
pub mod Complete
pub mod Outbox
