pub mod KeptLemmas
pub mod LossLemmas
pub mod MachineLemmas
pub mod QuietLemmas
