pub mod BackLemmas
pub mod GraphicLemmas
pub mod JoinLemmas
pub mod LawLemmas
pub mod MethodLemmas
pub mod ReplyLemmas
pub mod TypeLemmas
