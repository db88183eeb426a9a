pub mod AuthorityLemmas
pub mod QueryLemmas
pub mod TargetLemmas
mod UriLemmas
pub mod WordLemmas
