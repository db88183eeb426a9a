pub mod ActLemmas
pub mod FileLemmas
pub mod JournalLemmas
pub mod MakingLemmas
pub mod NumberLemmas
pub mod PlayLemmas
pub mod ReadingLemmas
pub mod SnapshotLemmas
