-- The lines of acts: of deeds, and of words on accepted requests.
use Rattle.std.specs.Prelude.{◌≡◌, ℕ, List, [], ◌∷◌, ◌++◌, length, Option, Some, None, option_map}
use Rattle.journal_lines.specs.Lines.{deed_len, first_deed}
use Rattle.journal_lines.specs.Spelled.{SpellsDeed}
use Rattle.journal_lines.specs.declared.deed.Dated.{Dated}
use Rattle.later_lines.specs.Spelled.{SpellsWord}
use Rattle.later_lines.specs.Words.{first_word, word_len}
use Rattle.later_opening.specs.declared.act.Act.{Act}
use Rattle.later_opening.specs.declared.act.Act.TheVariants.{Deed, Word}

-- ---- what is read

-- how many bytes the lines of this act have at the front of a text
abbrev pub len_of : Act → List ℕ → ℕ
len_of (Deed dated) text = deed_len text
len_of (Word word) text = word_len text

-- the word whose lines stand at the front of a text, as an act
abbrev pub first_worded : List ℕ → Option Act
first_worded text = option_map Word (first_word text)

abbrev pub deed_or_word : List ℕ → Option Dated → Option Act
deed_or_word text (Some dated) = Some (Deed dated)
deed_or_word text None = first_worded text

-- the act whose lines stand at the front of a text
abbrev pub first_act : List ℕ → Option Act
first_act text = deed_or_word text (first_deed text)

-- ---- what spells it

-- The text is the lines of this act.
abbrev pub SpellsAct : Act → List ℕ → Type 0
SpellsAct (Deed dated) text = SpellsDeed dated text
SpellsAct (Word word) text = SpellsWord word text

-- A text begins with the lines of an act.
pub record BeginsWithAct (act : Act) (text : List ℕ) : Type 0 where
  pub front : List ℕ
  pub back : List ℕ
  pub split : text ≡ front ++ back
  pub spells : SpellsAct act front
  pub len : length front ≡ len_of act text

-- the deeds among acts
abbrev pub deeds_in : List Act → List Dated
deeds_in [] = []
deeds_in (Deed dated ∷ acts) = dated ∷ deeds_in acts
deeds_in (Word word ∷ acts) = deeds_in acts
