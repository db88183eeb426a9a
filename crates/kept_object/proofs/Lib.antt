pub mod CrashLemmas
pub mod ReplaceLemmas
