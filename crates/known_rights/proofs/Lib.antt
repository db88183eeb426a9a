pub mod AskerLemmas
pub mod BesidesLemmas
pub mod KnownLemmas
