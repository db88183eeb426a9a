-- What is opened again of an entity behind a crash.
use Rattle.std.specs.Prelude.{◌≡◌, ◌⊎◌, ◌<◌, ℕ, false, List, ◌∷◌, ◌++◌, length, drop}
use Rattle.std.specs.Prelude.{Contains, IsTrue}
use Rattle.turn_desk.specs.Entries.{Runs}
use Rattle.kept_desk.specs.Kept.{HasSettled, MayGive}
use Rattle.kept_desk.specs.declared.turn.Answer.TheVariants.{Kept}
use Rattle.kept_object.specs.Crashing.{IsOpened}
use Rattle.kept_object.specs.State.{KeptData}
use Rattle.kept_object.specs.Steps.{KeptStep}
use Rattle.notify_outbox.specs.Items.{still_waits}
use Rattle.notify_outbox.specs.declared.item.Item.{Item}
use Rattle.entity_model.specs.Entity.{EntityData}
use Rattle.journal_events.specs.Steps.{KeptEntityStep}
use Rattle.journal_events.specs.declared.event.KeptOutcome.{KeptOutcome}
use Rattle.journal_events.specs.Kept.{ChangesTheMomentAlone}
use Rattle.journal_opening.specs.Opening.{IsOfMachine, IsRefused, OpensAs}
use Rattle.journal_opening.specs.declared.fault.OpeningFault.{OpeningFault}
use Rattle.journaled_entity.specs.Keeping.{KeepsEntity}
use Rattle.journaled_entity.specs.Losses.{LeavesAtOne, Turned}

-- The bytes of a file open as an entity that the first of these turns made, but for its moment,
-- which may be an earlier one; and they aren't refused. Behind those turns none that was done
-- before the crash was reported to be on the disk. An item that was sent, but not yet said to be
-- sent at one of those turns, is in the outbox again.
pub record ReopensAsAFront {F : Type 0} (tells : Type 0) (seen : F → List ℕ)
    (may_leave : F → List ℕ → Type 0) (moment : F → ℕ) (left_since : F → ℕ → List ℕ → Type 0)
    (opened : KeptData EntityData F) (all done : List Turned) (bytes : List ℕ) : Type 0 where
  pub front : List Turned
  pub back : List Turned
  pub split : all ≡ front ++ back
  pub made : KeptData EntityData F
  pub run : Runs (KeptStep KeptEntityStep KeepsEntity tells seen may_leave moment left_since)
      opened front made
  pub works : made.journal.is_failed ≡ false
  pub holds : HasSettled (drop (length front) done) → ⊥
  -- each event is among the first turns to which its outcome may be answered
  pub answered : (earlier later : List Turned) (turn : Turned) (outcome : KeptOutcome)
      → done ≡ earlier ++ turn ∷ later → MayGive (turn ∷ later) (Kept outcome)
      → length earlier < length front
  -- an item that was in the outbox is there, unless it left it at one of the first turns
  pub waits : (item : Item) → Contains opened.object.items item
      → IsTrue (still_waits made.object.last item)
      → Contains made.object.items item ⊎ LeavesAtOne item front
  pub opens : (len : ℕ) (e : EntityData) → OpensAs made.object.home bytes len e
      → ChangesTheMomentAlone e made.object
  pub refuses : (fault : OpeningFault) → IsRefused made.object.home bytes fault → IsOfMachine fault

-- An entity was opened at its journal, and took turns; then others, and a crash at some moment of
-- these: what the file has then opens as such a one.
abbrev pub ReopensWhatWasAnswered : {F : Type 0} → Type 0 → (F → List ℕ)
    → (F → List ℕ → Type 0) → (F → ℕ) → (F → ℕ → List ℕ → Type 0) → Type 0
ReopensWhatWasAnswered {F = F} tells seen may_leave moment left_since =
    (opened between after : KeptData EntityData F) (done later : List Turned)
    → tells → IsOpened KeepsEntity seen may_leave opened
    → Runs (KeptStep KeptEntityStep KeepsEntity tells seen may_leave moment left_since)
    opened done between
    → Runs (KeptStep KeptEntityStep KeepsEntity tells seen may_leave moment left_since)
    between later after
    → (bytes : List ℕ) → left_since after.journal.file (moment between.journal.file) bytes
    → ReopensAsAFront tells seen may_leave moment left_since opened (done ++ later) done bytes
