pub mod EachLemmas
pub mod HeadLemmas
pub mod ItemsLemmas
pub mod RefusalLemmas
pub mod ResourcesLemmas
pub mod SnapshotLemmas
pub mod WrittenLemmas
