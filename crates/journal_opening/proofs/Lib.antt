pub mod CountLemmas
pub mod FileLemmas
pub mod FirstLemmas
pub mod HomeLemmas
pub mod JournalLemmas
pub mod PlayLemmas
pub mod ReadingLemmas
