pub mod AnswerLemmas
mod CarryLemmas
