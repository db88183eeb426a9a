pub mod PlainLemmas
pub mod SendingLemmas
pub mod TurnsSent
