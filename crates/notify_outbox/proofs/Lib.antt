pub mod OrderLemmas
pub mod QueueLemmas
pub mod LeastLemmas
pub mod KeptLemmas
pub mod DropLemmas
pub mod StockLemmas
pub mod LateLemmas
