pub mod HttpLemmas
pub mod WordsLemmas
pub mod ServeLemmas
pub mod RunningLemmas
pub mod TreesSent
pub mod OutboxSent
pub mod EntitiesSent
pub mod LaterSent
