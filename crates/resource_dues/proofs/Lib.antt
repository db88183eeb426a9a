pub mod DuesLemmas
