pub mod KeptSent
pub mod RunLemmas
pub mod ServedLemmas
