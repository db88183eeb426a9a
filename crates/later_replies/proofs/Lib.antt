pub mod AnswerLemmas
pub mod HeardLemmas
pub mod RunLemmas
pub mod StepLemmas
