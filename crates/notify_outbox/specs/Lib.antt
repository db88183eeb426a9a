pub mod Items
pub mod Outbox
pub mod Queues
