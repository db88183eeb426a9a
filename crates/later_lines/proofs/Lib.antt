pub mod KindLemmas
pub mod SpelledLemmas
pub mod WordLemmas
