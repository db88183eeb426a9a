pub mod FormLemmas
pub mod BitLemmas
pub mod NameLemmas
pub mod LastLemmas
pub mod PolicyLemmas
