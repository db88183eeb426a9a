pub mod BaseLemmas
pub mod PartLemmas
pub mod BackLemmas
pub mod NameLemmas
pub mod ShortLemmas
pub mod ReadLemmas
pub mod CostLemmas
