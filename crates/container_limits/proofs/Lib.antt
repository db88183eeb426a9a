pub mod PlaceLemmas
pub mod LimitLemmas
pub mod QuietLemmas
pub mod MemoryLemmas
pub mod OutsideLemmas
