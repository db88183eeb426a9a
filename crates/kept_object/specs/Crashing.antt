-- What a crash leaves of an object that is kept.
use Rattle.std.specs.Prelude.{◌≡◌, ℕ, false, List, [], ◌++◌, length, drop}
use Rattle.turn_desk.specs.Entries.{Runs}
use Rattle.journal_file.specs.Gates.{IsSettled, KeepsText, text_of}
use Rattle.kept_desk.specs.Kept.{HasSettled, Reported}
use Rattle.kept_desk.specs.declared.turn.Turn.{Turn}
use Rattle.kept_desk.specs.declared.turn.Report.{Report}
use Rattle.kept_object.specs.State.{KeptData}
use Rattle.kept_object.specs.Steps.{KeptStep}

-- An object that was opened from its journal: the text of the journal keeps it, all of that is on
-- the disk, and nothing waits.
pub record IsOpened {X F : Type 0} (keeps : X → List ℕ → Type 0) (seen : F → List ℕ)
    (may_leave : F → List ℕ → Type 0) (opened : KeptData X F) : Type 0 where
  pub works : opened.journal.is_failed ≡ false
  pub nothing : opened.pending ≡ []
  pub settled : IsSettled seen may_leave opened.journal
  pub text : keeps opened.object (text_of seen opened.journal)

-- The text keeps an object that the first of these turns made, at none of which the journal failed.
-- Behind them none of those that were done before the crash was reported to be on the disk.
pub record KeepsAFront {X E O F : Type 0}
    (turns : ℕ → Turn E → KeptData X F → Report O → KeptData X F → Type 0)
    (keeps : X → List ℕ → Type 0) (opened : KeptData X F)
    (all done : List (Reported E O)) (text : List ℕ) : Type 0 where
  pub front : List (Reported E O)
  pub back : List (Reported E O)
  pub split : all ≡ front ++ back
  pub made : KeptData X F
  pub run : Runs turns opened front made
  pub works : made.journal.is_failed ≡ false
  pub keeps_it : keeps made.object text
  pub holds : HasSettled (drop (length front) done) → ⊥

-- the file keeps such a text
abbrev pub FileKeepsAFront : {X E O F : Type 0}
    → (ℕ → Turn E → KeptData X F → Report O → KeptData X F → Type 0) → (X → List ℕ → Type 0)
    → KeptData X F → List (Reported E O) → List (Reported E O) → List ℕ → Type 0
FileKeepsAFront turns keeps opened all done file = (text : List ℕ)
    × KeepsAFront turns keeps opened all done text × KeepsText text file

-- A run of turns, and a crash at some moment behind the first of them: the file keeps a text that
-- keeps an object which some of the turns made, from the first one on. None is lost among them that
-- was reported to be on the disk before, and none before that.
abbrev pub LosesNoAnswer : {X E O F : Type 0} → (ℕ → E → X → O → X → Type 0)
    → (X → List ℕ → Type 0) → Type 0 → (F → List ℕ) → (F → List ℕ → Type 0) → (F → ℕ)
    → (F → ℕ → List ℕ → Type 0) → Type 0
LosesNoAnswer {X = X} {E = E} {O = O} {F = F} step keeps tells seen may_leave moment left_since =
    (opened between after : KeptData X F) (done later : List (Reported E O))
    → tells → IsOpened keeps seen may_leave opened
    → Runs (KeptStep step keeps tells seen may_leave moment left_since) opened done between
    → Runs (KeptStep step keeps tells seen may_leave moment left_since) between later after
    → (file : List ℕ) → left_since after.journal.file (moment between.journal.file) file
    → FileKeepsAFront (KeptStep step keeps tells seen may_leave moment left_since) keeps opened
    (done ++ later) done file
