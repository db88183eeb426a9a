-- The steps of an object that is kept.
use Rattle.std.specs.Prelude.{◌≡◌, ◌⊎◌, ℕ, Bool, true, false, List, [], ◌++◌}
use Rattle.kept_file.specs.Crashes.{LeavesOnly}
use Rattle.journal_file.specs.Gates.{IsSettled, KeepsBeforeOrAfter, KeepsText, text_of}
use Rattle.kept_desk.specs.declared.turn.Turn.{Turn}
use Rattle.kept_desk.specs.declared.turn.Turn.TheVariants.{Do, Settle}
use Rattle.kept_desk.specs.declared.turn.Report.{Report}
use Rattle.kept_desk.specs.declared.turn.Report.TheVariants.{Done, Settled, Failed}
use Rattle.kept_object.specs.Records.{FileKeeps, Records}
use Rattle.kept_object.specs.State.{KeptData}

-- ---- an event

-- An event was done: the object took a step, and what has to be played again for it waits. That all
-- is on the disk is said only where nothing waits.
pub record DoesEvent {X E O F : Type 0} (step : ℕ → E → X → O → X → Type 0)
    (keeps : X → List ℕ → Type 0) (reading : ℕ) (event : E) (before : KeptData X F) (outcome : O)
    (settled : Bool) (after : KeptData X F) : Type 0 where
  pub steps : step reading event before.object outcome after.object
  pub records : Records keeps before.object before.pending after.object after.pending
  pub settled_only : settled ≡ true → after.pending ≡ []
  pub journal : after.journal ≡ before.journal

-- What was done can't be kept: the journal has failed, and its file is as it was.
pub record GivesUp {X F : Type 0} (before after : KeptData X F) : Type 0 where
  pub failed : after.journal.is_failed ≡ true
  pub file : after.journal.file ≡ before.journal.file

-- What an event may be reported, and what it leaves.
abbrev pub OnEvent : {X E O F : Type 0} → (ℕ → E → X → O → X → Type 0) → (X → List ℕ → Type 0)
    → ℕ → E → KeptData X F → Report O → KeptData X F → Type 0
OnEvent step keeps reading event before (Done outcome settled) after =
    DoesEvent step keeps reading event before outcome settled after
OnEvent step keeps reading event before Settled after = ⊥
OnEvent step keeps reading event before Failed after = GivesUp before after

-- ---- a turn to settle

-- What waited stands behind the text of the journal, or the text was replaced by another one that
-- keeps the object.
abbrev pub IsPutOrReplaced : {X : Type 0} → (X → List ℕ → Type 0) → X → List ℕ → List ℕ → List ℕ
    → Type 0
IsPutOrReplaced keeps object text pending now = (now ≡ text ++ pending) ⊎ keeps object now

-- That is so, and all of it is on the disk. Nothing waits any more.
pub record IsPut {X F : Type 0} (keeps : X → List ℕ → Type 0) (tells : Type 0) (seen : F → List ℕ)
    (may_leave : F → List ℕ → Type 0) (before after : KeptData X F) : Type 0 where
  pub object : after.object ≡ before.object
  pub pending : after.pending ≡ []
  pub works : after.journal.is_failed ≡ false
  pub text : tells → IsPutOrReplaced keeps after.object (text_of seen before.journal) before.pending
      (text_of seen after.journal)
  pub settled : tells → IsSettled seen may_leave after.journal

-- What this may be reported, and what it leaves: Settled, where what waited was put there; or the
-- journal has failed.
abbrev pub CameOfPutting : {X O F : Type 0} → (X → List ℕ → Type 0) → Type 0 → (F → List ℕ)
    → (F → List ℕ → Type 0) → KeptData X F → Report O → KeptData X F → Type 0
CameOfPutting keeps tells seen may_leave before (Done outcome settled) after = ⊥
CameOfPutting keeps tells seen may_leave before Settled after =
    IsPut keeps tells seen may_leave before after
CameOfPutting keeps tells seen may_leave before Failed after = after.journal.is_failed ≡ true

-- A file keeps the text from before, or that with what waited behind it, or another text that keeps
-- the object.
abbrev pub KeepsPutOrReplaced : {X : Type 0} → (X → List ℕ → Type 0) → X → List ℕ → List ℕ → List ℕ
    → Type 0
KeepsPutOrReplaced keeps object text pending file =
    KeepsBeforeOrAfter text pending file ⊎ FileKeeps keeps object file

-- What waits is put behind the text of the journal, and the text may be replaced. A crash at any
-- moment of that leaves such a file.
pub record Puts {X O F : Type 0} (keeps : X → List ℕ → Type 0) (tells : Type 0) (seen : F → List ℕ)
    (may_leave : F → List ℕ → Type 0) (moment : F → ℕ) (left_since : F → ℕ → List ℕ → Type 0)
    (before : KeptData X F) (report : Report O) (after : KeptData X F) : Type 0 where
  pub came : CameOfPutting keeps tells seen may_leave before report after
  pub any_moment : tells → LeavesOnly moment left_since before.journal.file after.journal.file
      (KeepsPutOrReplaced keeps before.object (text_of seen before.journal) before.pending)

-- ---- a journal that is replaced

-- A file keeps this text, or another one that keeps the object.
abbrev pub KeepsOrReplaced : {X : Type 0} → (X → List ℕ → Type 0) → X → List ℕ → List ℕ → Type 0
KeepsOrReplaced keeps object text file = KeepsText text file ⊎ FileKeeps keeps object file

-- Where nothing waits, the text of the journal may be replaced by another one that keeps the
-- object. A crash at any moment leaves the one or the other.
pub record MayReplace {X O F : Type 0} (keeps : X → List ℕ → Type 0) (tells : Type 0)
    (seen : F → List ℕ) (may_leave : F → List ℕ → Type 0) (moment : F → ℕ)
    (left_since : F → ℕ → List ℕ → Type 0) (before : KeptData X F) (report : Report O)
    (after : KeptData X F) : Type 0 where
  pub came : CameOfPutting keeps tells seen may_leave before report after
  pub any_moment : tells → LeavesOnly moment left_since before.journal.file after.journal.file
      (KeepsOrReplaced keeps before.object (text_of seen before.journal))

-- Nothing waits, and nothing is done.
pub record NothingWaits {X O F : Type 0} (before : KeptData X F) (report : Report O)
    (after : KeptData X F) : Type 0 where
  pub nothing : before.pending ≡ []
  pub report_is : report ≡ Settled
  pub same : after ≡ before

-- What a turn to settle may be reported, and what it leaves.
abbrev pub OnSettle : {X O F : Type 0} → (X → List ℕ → Type 0) → Type 0 → (F → List ℕ)
    → (F → List ℕ → Type 0) → (F → ℕ) → (F → ℕ → List ℕ → Type 0) → KeptData X F → Report O
    → KeptData X F → Type 0
OnSettle keeps tells seen may_leave moment left_since before report after =
    NothingWaits before report after
    ⊎ Puts keeps tells seen may_leave moment left_since before report after

-- ---- a turn

-- what comes of a turn where the journal hasn't failed
abbrev pub OnTurn : {X E O F : Type 0} → (ℕ → E → X → O → X → Type 0) → (X → List ℕ → Type 0)
    → Type 0 → (F → List ℕ) → (F → List ℕ → Type 0) → (F → ℕ) → (F → ℕ → List ℕ → Type 0)
    → ℕ → Turn E → KeptData X F → Report O → KeptData X F → Type 0
OnTurn step keeps tells seen may_leave moment left_since reading (Do event) before report after =
    OnEvent step keeps reading event before report after
OnTurn step keeps tells seen may_leave moment left_since reading Settle before report after =
    OnSettle keeps tells seen may_leave moment left_since before report after

-- A turn at a reading: the object before, what is reported, and the object after. Once the journal
-- has failed, nothing more is done.
pub record KeptStep {X E O F : Type 0} (step : ℕ → E → X → O → X → Type 0)
    (keeps : X → List ℕ → Type 0) (tells : Type 0) (seen : F → List ℕ)
    (may_leave : F → List ℕ → Type 0) (moment : F → ℕ) (left_since : F → ℕ → List ℕ → Type 0)
    (reading : ℕ) (turn : Turn E) (before : KeptData X F) (report : Report O)
    (after : KeptData X F) : Type 0 where
  pub stuck : before.journal.is_failed ≡ true → (report ≡ Failed) × (after ≡ before)
  pub works : before.journal.is_failed ≡ false → OnTurn step keeps tells seen may_leave moment
      left_since reading turn before report after
