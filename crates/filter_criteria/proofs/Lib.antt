pub mod Lists
pub mod Present
pub mod PartLemmas
pub mod Fields
pub mod FilterLemmas
