-- What is written of a word is read back as it, whatever stands behind it, and is no deed.
use Rattle.std.specs.Prelude.{◌≡◌, ℕ, List, ◌++◌, length, Some, None}
use Rattle.journal_lines.specs.Lines.{first_deed}
use Rattle.later_lines.specs.Spelled.{BeginsWithWord, SpellsWord}
use Rattle.later_lines.specs.Words.{IsReadBack, first_word, word_len, word_lines}
use Rattle.later_lines.specs.declared.word.Word.{Word}

-- The lines of a word that is read back from them are read as it.
abbrev pub WordsAreReadBack : Type 0
WordsAreReadBack = (word : Word) (behind : List ℕ) → IsReadBack word
    → (first_word (word_lines word ++ behind) ≡ Some word)
    × (word_len (word_lines word ++ behind) ≡ length (word_lines word))

-- What spells a word is read as it, whatever stands behind it; and what is read as one is spelled
-- so.
pub record WordsAreReadAsSpelled : Type 0 where
  pub read : (word : Word) (front back : List ℕ) → SpellsWord word front
      → (first_word (front ++ back) ≡ Some word) × (word_len (front ++ back) ≡ length front)
  pub spelled : (word : Word) (text : List ℕ) → first_word text ≡ Some word
      → BeginsWithWord word text

-- What is written of a word spells it.
abbrev pub WordsAreSpelled : Type 0
WordsAreSpelled = (word : Word) → IsReadBack word → SpellsWord word (word_lines word)

-- Where a word begins no deed does.
abbrev pub WordsAreNoDeeds : Type 0
WordsAreNoDeeds = (word : Word) (front back : List ℕ) → SpellsWord word front
    → first_deed (front ++ back) ≡ None
