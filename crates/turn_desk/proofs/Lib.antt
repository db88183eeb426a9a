pub mod GrowthLemmas
pub mod SharedLemmas
