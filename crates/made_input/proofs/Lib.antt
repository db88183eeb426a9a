pub mod ContentLemmas
pub mod MakingLemmas
