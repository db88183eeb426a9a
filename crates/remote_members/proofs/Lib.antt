pub mod RemoteLemmas
pub mod AskLemmas
pub mod WideLemmas
pub mod Shared
