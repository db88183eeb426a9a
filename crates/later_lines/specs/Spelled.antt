-- Texts that spell a word, whoever wrote them.
use Rattle.std.specs.Prelude.{◌≡◌, ℕ, true, List, ◌++◌, length, Some}
use Rattle.journal_lines.specs.Lines.{ended}
use Rattle.journal_lines.specs.Spelled.{has_no_end}
use Rattle.later_lines.specs.Words.{word_in, word_len, word_mark}
use Rattle.later_lines.specs.declared.word.Word.{Word}

-- The text is two lines that a word is, behind the mark.
pub record SpellsWord (word : Word) (text : List ℕ) : Type 0 where
  pub name : List ℕ
  pub value : List ℕ
  pub split : text ≡ word_mark ++ (ended name ++ ended value)
  pub name_whole : has_no_end name ≡ true
  pub value_whole : has_no_end value ≡ true
  pub means : word_in name value ≡ Some word

-- A text begins with the lines of a word.
pub record BeginsWithWord (word : Word) (text : List ℕ) : Type 0 where
  pub front : List ℕ
  pub back : List ℕ
  pub split : text ≡ front ++ back
  pub spells : SpellsWord word front
  pub len : length front ≡ word_len text
