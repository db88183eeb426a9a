-- The text that the file of a journal keeps, and the gate behind it.
use Rattle.std.specs.Prelude.{◌≡◌, ◌⊎◌, ℕ, Bool, true, false, not, ◌==◌, List, [], ◌∷◌, ◌++◌}
use Rattle.std.specs.Prelude.{length, take}
use Rattle.kept_file.specs.Crashes.{LeavesThis}
use Rattle.journal_file.specs.declared.journal.Journal.{Journal}

-- bytes begin with these
abbrev pub Begins : List ℕ → List ℕ → Type 0
Begins front bytes = (more : List ℕ) × (bytes ≡ front ++ more)

-- the byte of an open gate, `@`
abbrev pub open_gate : ℕ
open_gate = 64

-- the byte of a closed gate, LF
abbrev pub closed_gate : ℕ
closed_gate = 10

-- These bytes count for nothing behind a text: the gate in front of them isn't open, or nothing
-- stands behind it.
abbrev pub is_shut : List ℕ → Bool
is_shut [] = true
is_shut (gate ∷ []) = true
is_shut (gate ∷ b ∷ rest) = not (gate == open_gate)

-- A file keeps a text: the text, and then bytes that count for nothing.
pub record KeepsText (text file : List ℕ) : Type 0 where
  pub behind : List ℕ
  pub split : file ≡ text ++ behind
  pub shut : is_shut behind ≡ true

-- a file at rest: a text, and a closed gate behind it
abbrev pub at_rest : List ℕ → List ℕ
at_rest text = text ++ closed_gate ∷ []

-- A batch that can be put behind a text: an open gate, and something behind it.
abbrev pub is_batch : List ℕ → Bool
is_batch [] = false
is_batch (gate ∷ []) = false
is_batch (gate ∷ b ∷ rest) = gate == open_gate

-- A file keeps a text, or the text with a batch behind it.
abbrev pub KeepsBeforeOrAfter : List ℕ → List ℕ → List ℕ → Type 0
KeepsBeforeOrAfter text batch file = KeepsText text file ⊎ KeepsText (text ++ batch) file

-- A file keeps one text or the other.
abbrev pub KeepsOneOf : List ℕ → List ℕ → List ℕ → Type 0
KeepsOneOf text other file = KeepsText text file ⊎ KeepsText other file

-- the text of a journal
abbrev pub text_of : {F : Type 0} → (F → List ℕ) → Journal F → List ℕ
text_of seen journal = take journal.len (seen journal.file)

-- A journal stands between two batches: its file is at rest, all of it on the disk.
pub record IsSettled {F : Type 0} (seen : F → List ℕ) (may_leave : F → List ℕ → Type 0)
    (journal : Journal F) : Type 0 where
  pub rest : seen journal.file ≡ at_rest (text_of seen journal)
  pub len : length (text_of seen journal) ≡ journal.len
  pub kept : LeavesThis (seen journal.file) (may_leave journal.file)

-- One that hasn't failed stands between two batches.
abbrev pub IsReady : {F : Type 0} → (F → List ℕ) → (F → List ℕ → Type 0) → Journal F → Type 0
IsReady seen may_leave journal = journal.is_failed ≡ false → IsSettled seen may_leave journal
