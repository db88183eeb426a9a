pub mod ChangeLemmas
pub mod KeepLemmas
pub mod OpenLemmas
pub mod CrashLemmas
pub mod SendingLemmas
pub mod ItemLemmas
pub mod RunLemmas
pub mod HandingLemmas
