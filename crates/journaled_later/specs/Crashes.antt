-- What is opened again of a CSE that answers later behind a crash.
use Rattle.std.specs.Prelude.{◌≡◌, ◌<◌, ℕ, false, List, ◌∷◌, ◌++◌, length, drop}
use Rattle.turn_desk.specs.Entries.{Runs}
use Rattle.kept_desk.specs.Kept.{HasSettled, MayGive}
use Rattle.kept_desk.specs.declared.turn.Answer.TheVariants.{Kept}
use Rattle.kept_object.specs.Crashing.{IsOpened}
use Rattle.kept_object.specs.State.{KeptData}
use Rattle.kept_object.specs.Steps.{KeptStep}
use Rattle.entity_model.specs.Sound.{IsSoundEntity}
use Rattle.later_replies.specs.Entries.{LaterData}
use Rattle.journal_events.specs.declared.event.KeptOutcome.{KeptOutcome}
use Rattle.journal_opening.specs.Opening.{IsOfMachine}
use Rattle.journal_opening.specs.declared.fault.OpeningFault.{OpeningFault}
use Rattle.later_opening.specs.Opening.{IsRefusedLater, OpensLaterAs}
use Rattle.journaled_later.specs.Keeping.{IsAtEarlier, KeepsLater}
use Rattle.journaled_later.specs.Machine.{LaterTurned}
use Rattle.journaled_later.specs.Steps.{KeptLaterStep}
use Rattle.later_replies.specs.Sound.{IsSoundLater}

-- The bytes of a file open as the CSE that the first of these turns made, but for its moment, which
-- may be an earlier one; and they aren't refused. So each request that was accepted by then is kept
-- as it was: waiting, or with its result. Behind those turns none that was done before the crash
-- was reported to be on the disk.
pub record ReopensLaterAsAFront {F : Type 0} (tells : Type 0) (seen : F → List ℕ)
    (may_leave : F → List ℕ → Type 0) (moment : F → ℕ) (left_since : F → ℕ → List ℕ → Type 0)
    (opened : KeptData LaterData F) (all done : List LaterTurned) (bytes : List ℕ) : Type 0 where
  pub front : List LaterTurned
  pub back : List LaterTurned
  pub split : all ≡ front ++ back
  pub made : KeptData LaterData F
  pub run : Runs (KeptStep KeptLaterStep KeepsLater tells seen may_leave moment left_since)
      opened front made
  pub works : made.journal.is_failed ≡ false
  pub holds : HasSettled (drop (length front) done) → ⊥
  -- each event is among the first turns to which its outcome may be answered
  pub answered : (earlier later : List LaterTurned) (turn : LaterTurned) (outcome : KeptOutcome)
      → done ≡ earlier ++ turn ∷ later → MayGive (turn ∷ later) (Kept outcome)
      → length earlier < length front
  pub opens : (len : ℕ) (d : LaterData) → OpensLaterAs made.object.inner.home bytes len d
      → IsAtEarlier d made.object
  -- what holds of a CSE that answers later at every moment, holds of what is opened
  pub sound : (len : ℕ) (d : LaterData) → OpensLaterAs made.object.inner.home bytes len d
      → IsSoundEntity d.inner → IsSoundLater made.object → IsSoundLater d
  pub refuses : (fault : OpeningFault) → IsRefusedLater made.object.inner.home bytes fault
      → IsOfMachine fault

-- A CSE was opened at its journal, and took turns; then others, and a crash at some moment of these:
-- what the file has then opens as such a one.
abbrev pub ReopensWhatWasAccepted : {F : Type 0} → Type 0 → (F → List ℕ)
    → (F → List ℕ → Type 0) → (F → ℕ) → (F → ℕ → List ℕ → Type 0) → Type 0
ReopensWhatWasAccepted {F = F} tells seen may_leave moment left_since =
    (opened between after : KeptData LaterData F) (done later : List LaterTurned)
    → tells → IsOpened KeepsLater seen may_leave opened
    → Runs (KeptStep KeptLaterStep KeepsLater tells seen may_leave moment left_since)
    opened done between
    → Runs (KeptStep KeptLaterStep KeepsLater tells seen may_leave moment left_since)
    between later after
    → (bytes : List ℕ) → left_since after.journal.file (moment between.journal.file) bytes
    → ReopensLaterAsAFront tells seen may_leave moment left_since opened (done ++ later) done bytes
