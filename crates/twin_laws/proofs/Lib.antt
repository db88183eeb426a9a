pub mod FormLemmas
pub mod AgreeLemmas
