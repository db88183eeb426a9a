-- What comes of opening the bytes of the journal of a CSE that answers later.
use Rattle.std.specs.Prelude.{◌≡◌, ◌⊎◌, ℕ, ◌≤◌, false, true, List, length, take, drop, Err, None, ⊤}
use Rattle.resource_model.specs.Home.{HomeData}
use Rattle.entity_model.specs.Entity.{EntityData}
use Rattle.accepted_requests.specs.Entries.{no_entries}
use Rattle.later_replies.specs.Entries.{LaterData}
use Rattle.journal_file.specs.Gates.{is_shut}
use Rattle.journal_lines.specs.Header.{first_header}
use Rattle.journal_lines.specs.declared.header.HeaderFault.TheVariants as header
use Rattle.entity_snapshot.specs.declared.fault.SnapshotFault.TheVariants as snapshot
use Rattle.journal_opening.specs.Journals.{made_of}
use Rattle.journal_opening.specs.Opening.{IsNoSnapshot}
use Rattle.journal_opening.specs.Playing.{fault_at}
use Rattle.journal_opening.specs.declared.fault.OpeningFault.{OpeningFault}
use Rattle.journal_opening.specs.declared.fault.OpeningFault.TheVariants.{NoHeader, OtherFormat}
use Rattle.journal_opening.specs.declared.fault.OpeningFault.TheVariants.{OtherHome, BadLine}
use Rattle.journal_opening.specs.declared.fault.OpeningFault.TheVariants.{BadSnapshot, Unsound}
use Rattle.journal_opening.specs.declared.fault.OpeningFault.TheVariants.{OldDeed, LaterWord}
use Rattle.journal_opening.specs.declared.fault.OpeningFault.TheVariants.{Failed, OutOfMemory}
use Rattle.later_opening.specs.Acts.{deeds_in}
use Rattle.later_opening.specs.Journals.{IsLaterJournalOf, MakesLater}
use Rattle.later_opening.specs.Making.{requests_of}
use Rattle.later_opening.specs.Playing.{first_fitting}
use Rattle.later_opening.specs.declared.act.Act.{Act}

-- The bytes are those of a file that keeps a text of so many bytes, which makes this CSE.
pub record OpensLaterAs (home : HomeData) (bytes : List ℕ) (len : ℕ) (d : LaterData) : Type 0 where
  pub makes : MakesLater home (take len bytes) d
  pub within : len ≤ length bytes
  pub shut : is_shut (drop len bytes) ≡ true

-- A journal stands at the front of the bytes, and what stands behind it at a place counts, but is
-- no act that fits.
pub record StopsLaterAt (home : HomeData) (bytes : List ℕ) (place : ℕ) : Type 0 where
  pub base : EntityData
  pub acts : List Act
  pub journal : IsLaterJournalOf home base acts (take place bytes)
  pub within : place ≤ length bytes
  pub counts : is_shut (drop place bytes) ≡ false
  pub none : first_fitting (made_of (deeds_in acts) base).last (requests_of acts no_entries)
      (drop place bytes) ≡ None

-- The bytes are refused for this reason: by their first line, by the snapshot that they begin with,
-- or at the line of this number. That the file fails or memory runs out says nothing of them.
abbrev pub IsRefusedLater : HomeData → List ℕ → OpeningFault → Type 0
IsRefusedLater home bytes NoHeader = IsNoSnapshot home bytes snapshot.NoHeader
IsRefusedLater home bytes OtherFormat = (first_header home bytes ≡ Err header.OtherFormat)
    ⊎ IsNoSnapshot home bytes snapshot.OtherFormat
IsRefusedLater home bytes OtherHome = (first_header home bytes ≡ Err header.OtherHome)
    ⊎ IsNoSnapshot home bytes snapshot.OtherHome
IsRefusedLater home bytes (BadSnapshot number) =
    IsNoSnapshot home bytes (snapshot.BadLine number)
IsRefusedLater home bytes Unsound = IsNoSnapshot home bytes snapshot.Unsound
IsRefusedLater home bytes (BadLine number) =
    (place : ℕ) × StopsLaterAt home bytes place × (BadLine number ≡ fault_at bytes place)
IsRefusedLater home bytes (OldDeed number) =
    (place : ℕ) × StopsLaterAt home bytes place × (OldDeed number ≡ fault_at bytes place)
IsRefusedLater home bytes (LaterWord number) =
    (place : ℕ) × StopsLaterAt home bytes place × (LaterWord number ≡ fault_at bytes place)
IsRefusedLater home bytes Failed = ⊤
IsRefusedLater home bytes OutOfMemory = ⊤
