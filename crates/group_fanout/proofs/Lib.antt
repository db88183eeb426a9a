pub mod OperationLemmas
pub mod HomeLemmas
pub mod MemberLemmas
pub mod FanLemmas
