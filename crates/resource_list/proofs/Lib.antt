pub mod PlaceLemmas
pub mod SweepLemmas
pub mod RemovalLemmas
pub mod AfterLemmas
