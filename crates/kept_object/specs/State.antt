-- An object with the journal in which its lines are kept.
use Rattle.std.specs.Prelude.{ℕ, List}
use Rattle.journal_file.specs.declared.journal.Journal.{Journal}

-- the object, its journal, and the lines that wait to be put behind the text of the journal
pub record KeptData (X F : Type 0) : Type 0 where
  pub object : X
  pub journal : Journal F
  pub pending : List ℕ
