-- What a file keeps that was replaced by a snapshot.
use Rattle.std.specs.Prelude.{◌≡◌, ◌⊎◌, ℕ, List, ⊤}
use Rattle.resource_model.specs.Home.{HomeData}
use Rattle.entity_model.specs.Entity.{EntityData}
use Rattle.later_replies.specs.Entries.{LaterData}
use Rattle.kept_file.specs.Crashes.{LeavesThis}
use Rattle.journal_opening.specs.Snapshots.{IsSnapshot}
use Rattle.later_opening.specs.Opening.{IsRefusedLater, OpensLaterAs}
use Rattle.later_opening.specs.Snapshots.{HasLaterSnapshot, IsLaterSnapshot}
use Rattle.journal_snapshot.specs.declared.fault.ShorteningFault.{ShorteningFault}
use Rattle.journal_snapshot.specs.declared.fault.ShorteningFault.TheVariants.{Refused, Unkept}
use Rattle.journal_snapshot.specs.declared.fault.ShorteningFault.TheVariants.{Failed, OutOfMemory}

-- The bytes are these, or a snapshot of this CSE.
abbrev pub SnapshotOr : List ℕ → LaterData → List ℕ → Type 0
SnapshotOr old d bytes = (bytes ≡ old) ⊎ IsLaterSnapshot d bytes

-- A crash leaves one snapshot of this CSE, and nothing else.
pub record LeavesLaterSnapshot (d : LaterData) (may_leave : List ℕ → Type 0) : Type 0 where
  pub bytes : List ℕ
  pub snapshot : IsLaterSnapshot d bytes
  pub only : LeavesThis bytes may_leave

-- A crash leaves one snapshot of this entity, without a word on accepted requests, and nothing else.
pub record LeavesSnapshot (e : EntityData) (may_leave : List ℕ → Type 0) : Type 0 where
  pub bytes : List ℕ
  pub snapshot : IsSnapshot e bytes
  pub only : LeavesThis bytes may_leave

-- A file with the snapshot of a CSE isn't put anywhere for this reason.
abbrev pub IsUnput : LaterData → ShorteningFault → Type 0
IsUnput d (Refused fault) = ⊥
IsUnput d Unkept = ¬ HasLaterSnapshot d
IsUnput d Failed = ⊤
IsUnput d OutOfMemory = ⊤

-- A file with these bytes isn't replaced for this reason: its journal isn't opened, or what it
-- makes has no snapshot. That a call fails or memory runs out says nothing of them.
abbrev pub IsRefusedFor : HomeData → List ℕ → ShorteningFault → Type 0
IsRefusedFor home bytes (Refused fault) = IsRefusedLater home bytes fault
IsRefusedFor home bytes Unkept =
    (len : ℕ) × (d : LaterData) × OpensLaterAs home bytes len d × (¬ HasLaterSnapshot d)
IsRefusedFor home bytes Failed = ⊤
IsRefusedFor home bytes OutOfMemory = ⊤
