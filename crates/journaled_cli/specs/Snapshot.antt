-- What the command `snapshot` does.
use Rattle.std.specs.Prelude.{◌≡◌, ◌≢◌, ℕ, List, Option, Some, None, IfSome}
use Rattle.m2m_io.specs.declared.status.Status.{Status}
use Rattle.m2m_io.specs.declared.status.Status.TheVariants.{Done, Memory, WriteFault}
use Rattle.kept_file.specs.Crashes.{LeavesOnly}
use Rattle.journal_file.specs.Gates.{KeepsText}
use Rattle.journal_lines.specs.declared.deed.Dated.{Dated}
use Rattle.resource_model.specs.Home.{HomeData}
use Rattle.entity_model.specs.Entity.{EntityData}
use Rattle.journal_opening.specs.Journals.{IsJournalOf, made_of}
use Rattle.journal_opening.specs.Snapshots.{KeepsMaking}
use Rattle.later_opening.specs.Journals.{IsLaterJournalOf}
use Rattle.later_opening.specs.Making.{made_of_acts}
use Rattle.later_opening.specs.Snapshots.{KeepsMakingLater}
use Rattle.later_opening.specs.declared.act.Act.{Act}
use Rattle.journal_snapshot.specs.Shortening.{IsRefusedFor, LeavesLaterSnapshot, LeavesSnapshot}
use Rattle.journal_snapshot.specs.declared.fault.ShorteningFault.{ShorteningFault}
use Rattle.journal_snapshot.specs.declared.fault.ShorteningFault.TheVariants as why
use Rattle.journaled_cli.specs.Run.{refusal}

-- the status where a journal was replaced, or wasn't for this fault
abbrev pub status_for : Option ShorteningFault → Status
status_for None = Done
status_for (Some (why.Refused fault)) = refusal fault
status_for (Some why.Unkept) = WriteFault
status_for (Some why.Failed) = WriteFault
status_for (Some why.OutOfMemory) = Memory

module _ {N : Type 0} (tells : Type 0) (seen : N → List ℕ) (may_leave : N → List ℕ → Type 0)
    (moment : N → ℕ) (left_since : N → ℕ → List ℕ → Type 0) where
  -- The journal of this home under a name was replaced by the snapshot of the CSE that it makes,
  -- with its accepted requests, unless there was a fault; one of deeds alone was replaced by one
  -- without a word. A crash at any moment leaves a journal that makes an equal CSE. What isn't
  -- replaced stays, unless a call failed.
  pub record Shortens (home : HomeData) (old new : N) (status : Status) : Type 0 where
    pub fault : Option ShorteningFault
    pub status_is : status ≡ status_for fault
    pub leaves : tells → fault ≡ None → (base : EntityData) (acts : List Act) (text : List ℕ)
        → IsLaterJournalOf home base acts text → KeepsText text (seen old)
        → LeavesLaterSnapshot (made_of_acts acts base) (may_leave new)
    pub leaves_plain : tells → fault ≡ None → (base : EntityData) (deeds : List Dated)
        (text : List ℕ) → IsJournalOf home base deeds text → KeepsText text (seen old)
        → LeavesSnapshot (made_of deeds base) (may_leave new)
    pub any_moment : tells → (base : EntityData) (acts : List Act) (text : List ℕ)
        → IsLaterJournalOf home base acts text → KeepsText text (seen old)
        → LeavesOnly moment left_since old new (KeepsMakingLater home (made_of_acts acts base))
    pub any_moment_plain : tells → (base : EntityData) (deeds : List Dated) (text : List ℕ)
        → IsJournalOf home base deeds text → KeepsText text (seen old)
        → LeavesOnly moment left_since old new (KeepsMaking home (made_of deeds base))
    pub refused : tells → IfSome fault (IsRefusedFor home (seen old))
    pub stays : IfSome fault (λ f. f ≢ why.Failed → new ≡ old)
