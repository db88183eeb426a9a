pub mod NameLemmas
pub mod Sent
