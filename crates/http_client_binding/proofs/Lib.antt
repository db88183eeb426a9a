pub mod AddressLemmas
pub mod AskLemmas
pub mod CodeLemmas
pub mod LineLemmas
pub mod OrderLemmas
pub mod QueryLemmas
pub mod SaidLemmas
pub mod UrlLemmas
