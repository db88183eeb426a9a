pub mod BarrenLemmas
pub mod BesideLemmas
pub mod PushingLemmas
pub mod RemovingLemmas
pub mod SpendingLemmas
pub mod StampingLemmas
pub mod UpdatingLemmas
