pub mod TalkLemmas
pub mod WayLemmas
pub mod HearLemmas
pub mod TurnLemmas
pub mod LawLemmas
