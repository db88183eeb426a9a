pub mod AskedLemmas
pub mod EffectLemmas
pub mod FormLemmas
pub mod HereLemmas
pub mod KeptLemmas
pub mod SizeLemmas
