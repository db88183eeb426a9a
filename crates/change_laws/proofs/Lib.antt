pub mod Words
pub mod Terms
pub mod Facts
pub mod BehindLemmas
pub mod MayLemmas
pub mod MemberLemmas
pub mod ServedLemmas
