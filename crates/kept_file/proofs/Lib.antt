pub mod MemoryLemmas
pub mod MomentLemmas
pub mod PlaceLemmas
