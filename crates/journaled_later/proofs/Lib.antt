pub mod AnswerLemmas
pub mod CrashLemmas
pub mod HandedLemmas
pub mod MachineLemmas
pub mod OpenLemmas
pub mod RecordLemmas
pub mod RunLemmas
