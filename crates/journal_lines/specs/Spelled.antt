-- Texts that spell a header and deeds: what a journal that is read may have in it, whoever wrote
-- it.
use Rattle.std.specs.Prelude.{◌≡◌, ℕ, ◌+◌, ◌==◌, Bool, true, not, List, [], ◌∷◌, ◌++◌, length, Ok}
use Rattle.std.specs.Prelude.{Some}
use Rattle.std.specs.List.{list_all}
use Rattle.resource_model.specs.Home.{HomeData}
use Rattle.journal_lines.specs.Header.{header_spelled}
use Rattle.journal_lines.specs.Lines.{dated_len, deed_in, deed_len, deed_mark, ended, line_len}
use Rattle.journal_lines.specs.declared.deed.Dated.{Dated}

-- no line ends in these bytes
abbrev pub has_no_end : List ℕ → Bool
has_no_end line = list_all (λ b. not (b == 10)) line

-- The text is a line that a header of a journal of this home is, opened at this reading.
pub record SpellsHeader (home : HomeData) (opened : ℕ) (text : List ℕ) : Type 0 where
  pub line : List ℕ
  pub split : text ≡ ended line
  pub whole : has_no_end line ≡ true
  pub means : header_spelled home line ≡ Ok opened

-- The text is two lines that a deed at a moment is.
pub record SpellsDated (dated : Dated) (text : List ℕ) : Type 0 where
  pub stamp : List ℕ
  pub word : List ℕ
  pub split : text ≡ ended stamp ++ ended word
  pub stamp_whole : has_no_end stamp ≡ true
  pub word_whole : has_no_end word ≡ true
  pub means : deed_in stamp word ≡ Some dated

-- The text is the lines of a deed of a journal: the mark, and these two.
pub record SpellsDeed (dated : Dated) (text : List ℕ) : Type 0 where
  pub lines : List ℕ
  pub split : text ≡ deed_mark ++ lines
  pub spells : SpellsDated dated lines

-- The text is the lines of these deeds, one after another.
abbrev pub SpellsDeeds : List Dated → List ℕ → Type 0
SpellsDeeds [] text = text ≡ []
SpellsDeeds (dated ∷ deeds) text = (front : List ℕ) × (back : List ℕ) × (text ≡ front ++ back)
    × SpellsDeed dated front × SpellsDeeds deeds back

-- A text begins with lines that a header is, as long as the first line.
pub record BeginsWithHeader (home : HomeData) (opened : ℕ) (text : List ℕ) : Type 0 where
  pub front : List ℕ
  pub back : List ℕ
  pub split : text ≡ front ++ back
  pub spells : SpellsHeader home opened front
  pub len : length front ≡ line_len text + 1

-- A text begins with lines that a deed at a moment is, as long as its first two lines.
pub record BeginsWithDated (dated : Dated) (text : List ℕ) : Type 0 where
  pub front : List ℕ
  pub back : List ℕ
  pub split : text ≡ front ++ back
  pub spells : SpellsDated dated front
  pub len : length front ≡ dated_len text

-- A text begins with the lines of a deed of a journal.
pub record BeginsWithDeed (dated : Dated) (text : List ℕ) : Type 0 where
  pub front : List ℕ
  pub back : List ℕ
  pub split : text ≡ front ++ back
  pub spells : SpellsDeed dated front
  pub len : length front ≡ deed_len text
