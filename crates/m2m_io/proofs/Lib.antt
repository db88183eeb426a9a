mod ClockLemmas
pub mod ToldLemmas
