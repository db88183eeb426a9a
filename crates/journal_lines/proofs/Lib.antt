pub mod DepthLemmas
pub mod EndLemmas
pub mod HeaderLemmas
pub mod InnerLemmas
pub mod LineLemmas
pub mod SpelledLemmas
pub mod PrimitiveLemmas
