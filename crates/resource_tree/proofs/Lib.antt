pub mod QueueLemmas
pub mod IndexLemmas
pub mod KinLemmas
pub mod Sent
pub mod RemovalLemmas
pub mod OverdueLemmas
