-- What comes of opening the bytes of a journal's file.
use Rattle.std.specs.Prelude.{◌≡◌, ◌⊎◌, ℕ, ◌<◌, ◌≤◌, false, true, List, [], length, take, drop}
use Rattle.std.specs.Prelude.{Err, None, ⊤}
use Rattle.std.specs.declared.result.Result.{Result}
use Rattle.resource_model.specs.Home.{HomeData}
use Rattle.entity_model.specs.Entity.{EntityData}
use Rattle.kept_file.specs.Crashes.{LeavesOnly, LeavesThis}
use Rattle.journal_file.specs.Gates.{is_shut}
use Rattle.journal_lines.specs.Header.{first_header}
use Rattle.journal_lines.specs.Lines.{first_deed}
use Rattle.journal_lines.specs.declared.deed.Dated.{Dated}
use Rattle.journal_lines.specs.declared.header.HeaderFault.TheVariants as header
use Rattle.journal_lines.specs.declared.header.HeaderFault.{HeaderFault}
use Rattle.entity_snapshot.specs.Opening.{IsUnopened}
use Rattle.entity_snapshot.specs.declared.fault.SnapshotFault.TheVariants as snapshot
use Rattle.entity_snapshot.specs.declared.fault.SnapshotFault.{SnapshotFault}
use Rattle.journal_opening.specs.Journals.{IsJournalOf, Makes, SpellsOpening}
use Rattle.journal_opening.specs.Playing.{fault_at}
use Rattle.journal_opening.specs.declared.fault.OpeningFault.{OpeningFault}
use Rattle.journal_opening.specs.declared.fault.OpeningFault.TheVariants.{NoHeader, OtherFormat}
use Rattle.journal_opening.specs.declared.fault.OpeningFault.TheVariants.{OtherHome, BadLine}
use Rattle.journal_opening.specs.declared.fault.OpeningFault.TheVariants.{BadSnapshot, Unsound}
use Rattle.journal_opening.specs.declared.fault.OpeningFault.TheVariants.{OldDeed, LaterWord}
use Rattle.journal_opening.specs.declared.fault.OpeningFault.TheVariants.{Failed, OutOfMemory}

-- The bytes are those of a file that keeps a text of so many bytes, which makes this entity.
pub record OpensAs (home : HomeData) (bytes : List ℕ) (len : ℕ) (e : EntityData) : Type 0 where
  pub makes : Makes home (take len bytes) e
  pub within : len ≤ length bytes
  pub shut : is_shut (drop len bytes) ≡ true

-- A journal stands at the front of the bytes, and what stands behind it at a place counts, but is
-- no deed.
pub record StopsAt (home : HomeData) (bytes : List ℕ) (place : ℕ) : Type 0 where
  pub base : EntityData
  pub deeds : List Dated
  pub journal : IsJournalOf home base deeds (take place bytes)
  pub within : place ≤ length bytes
  pub counts : is_shut (drop place bytes) ≡ false
  pub none : first_deed (drop place bytes) ≡ None

-- The first line is no header, and no snapshot is opened at the bytes for this reason.
abbrev pub IsNoSnapshot : HomeData → List ℕ → SnapshotFault → Type 0
IsNoSnapshot home bytes fault =
    (first_header home bytes ≡ Err header.NoHeader) × IsUnopened home bytes fault

-- The bytes are refused for this reason: by their first line, by the snapshot that they begin with,
-- or at the line of this number. That the file fails or memory runs out says nothing of them.
abbrev pub IsRefused : HomeData → List ℕ → OpeningFault → Type 0
IsRefused home bytes NoHeader = IsNoSnapshot home bytes snapshot.NoHeader
IsRefused home bytes OtherFormat = (first_header home bytes ≡ Err header.OtherFormat)
    ⊎ IsNoSnapshot home bytes snapshot.OtherFormat
IsRefused home bytes OtherHome = (first_header home bytes ≡ Err header.OtherHome)
    ⊎ IsNoSnapshot home bytes snapshot.OtherHome
IsRefused home bytes (BadSnapshot number) = IsNoSnapshot home bytes (snapshot.BadLine number)
IsRefused home bytes Unsound = IsNoSnapshot home bytes snapshot.Unsound
IsRefused home bytes (BadLine number) =
    (place : ℕ) × StopsAt home bytes place × (BadLine number ≡ fault_at bytes place)
IsRefused home bytes (OldDeed number) =
    (place : ℕ) × StopsAt home bytes place × (OldDeed number ≡ fault_at bytes place)
IsRefused home bytes (LaterWord number) =
    (place : ℕ) × StopsAt home bytes place × (LaterWord number ≡ fault_at bytes place)
IsRefused home bytes Failed = ⊤
IsRefused home bytes OutOfMemory = ⊤

-- the fault isn't one of the bytes
abbrev pub IsOfMachine : OpeningFault → Type 0
IsOfMachine NoHeader = ⊥
IsOfMachine OtherFormat = ⊥
IsOfMachine OtherHome = ⊥
IsOfMachine (BadSnapshot number) = ⊥
IsOfMachine Unsound = ⊥
IsOfMachine (BadLine number) = ⊥
IsOfMachine (OldDeed number) = ⊥
IsOfMachine (LaterWord number) = ⊥
IsOfMachine Failed = ⊤
IsOfMachine OutOfMemory = ⊤

-- the fault of a header as that of an opening
abbrev pub opening_fault : HeaderFault → OpeningFault
opening_fault header.NoHeader = NoHeader
opening_fault header.OtherFormat = OtherFormat
opening_fault header.OtherHome = OtherHome
opening_fault header.OutOfMemory = OutOfMemory

-- the fault of a snapshot as that of an opening
abbrev pub snapshot_fault : SnapshotFault → OpeningFault
snapshot_fault snapshot.NoHeader = NoHeader
snapshot_fault snapshot.OtherFormat = OtherFormat
snapshot_fault snapshot.OtherHome = OtherHome
snapshot_fault (snapshot.BadLine number) = BadSnapshot number
snapshot_fault snapshot.Unsound = Unsound
snapshot_fault snapshot.OutOfMemory = OutOfMemory

-- So many bytes at the front say with which entity a journal of this home begins.
pub record BeginsAs (home : HomeData) (bytes : List ℕ) (len : ℕ) (base : EntityData) : Type 0 where
  pub opens : SpellsOpening home base (take len bytes)
  pub within : len ≤ length bytes

-- So many bytes at the front say it, whichever entity it is.
abbrev pub HasFront : HomeData → List ℕ → ℕ → Type 0
HasFront home bytes len = (base : EntityData) × BeginsAs home bytes len base

-- why a journal isn't begun
abbrev pub HaltsBeginning : HomeData → List ℕ → OpeningFault → Type 0
HaltsBeginning home bytes NoHeader = IsNoSnapshot home bytes snapshot.NoHeader
HaltsBeginning home bytes OtherFormat = (first_header home bytes ≡ Err header.OtherFormat)
    ⊎ IsNoSnapshot home bytes snapshot.OtherFormat
HaltsBeginning home bytes OtherHome = (first_header home bytes ≡ Err header.OtherHome)
    ⊎ IsNoSnapshot home bytes snapshot.OtherHome
HaltsBeginning home bytes (BadSnapshot number) = IsNoSnapshot home bytes (snapshot.BadLine number)
HaltsBeginning home bytes Unsound = IsNoSnapshot home bytes snapshot.Unsound
HaltsBeginning home bytes (BadLine number) = ⊥
HaltsBeginning home bytes (OldDeed number) = ⊥
HaltsBeginning home bytes (LaterWord number) = ⊥
HaltsBeginning home bytes Failed = ⊥
HaltsBeginning home bytes OutOfMemory = ⊤

-- A call leaves a file as it was, at each moment.
pub record StaysAsItWas {F : Type 0} (seen : F → List ℕ) (may_leave : F → List ℕ → Type 0)
    (moment : F → ℕ) (left_since : F → ℕ → List ℕ → Type 0) (old new : F) : Type 0 where
  pub same : seen new ≡ seen old
  pub kept : LeavesThis (seen new) (may_leave new)
  pub any_moment : LeavesOnly moment left_since old new (λ c. c ≡ seen old)
