mod GateLemmas
mod SharesLemmas
mod JobsLemmas
mod ServingLemmas
mod ShiftsLemmas
mod Sent
pub mod RoundsLemmas
