pub mod TwinLemmas
pub mod LineLemmas
pub mod SideLemmas
