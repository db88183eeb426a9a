pub mod SpelledLemmas
pub mod WrittenLemmas
