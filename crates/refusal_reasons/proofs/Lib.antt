pub mod FaultLemmas
pub mod PrintedLemmas
pub mod StatusLemmas
