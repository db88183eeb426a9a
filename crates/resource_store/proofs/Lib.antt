pub mod StoreLemmas
pub mod NextLemmas
pub mod KnownLemmas
pub mod LeafLemmas
pub mod SeededLemmas
pub mod SizeLemmas
