-- How far the lines of a journal are played.
use Rattle.std.specs.Prelude.{◌≡◌, ℕ, ◌+◌, ◌≤◌, false, List, ◌++◌, length, drop, Some, None, ⊤}
use Rattle.std.specs.Prelude.{if◌then◌else◌, nat_eq, codes, Bool}
use Rattle.std.specs.List.{starts_with}
use Rattle.entity_model.specs.Entity.{EntityData}
use Rattle.journal_file.specs.Gates.{is_shut}
use Rattle.journal_lines.specs.Lines.{begins_unmarked, deed_len, first_deed}
use Rattle.journal_lines.specs.Spelled.{SpellsDeeds}
use Rattle.journal_lines.specs.declared.deed.Dated.{Dated}
use Rattle.journal_opening.specs.Journals.{made_by, made_of}
use Rattle.entity_snapshot.specs.Reading.{line_number}
use Rattle.journal_opening.specs.declared.fault.OpeningFault.{OpeningFault}
use Rattle.journal_opening.specs.declared.fault.OpeningFault.TheVariants.{NoHeader, OtherFormat}
use Rattle.journal_opening.specs.declared.fault.OpeningFault.TheVariants.{OtherHome, BadLine}
use Rattle.journal_opening.specs.declared.fault.OpeningFault.TheVariants.{BadSnapshot, Unsound}
use Rattle.journal_opening.specs.declared.fault.OpeningFault.TheVariants.{OldDeed, LaterWord}
use Rattle.journal_opening.specs.declared.fault.OpeningFault.TheVariants.{Failed, OutOfMemory}

-- The bytes between two places are the lines of these deeds.
pub record ReadsUpTo (bytes : List ℕ) (from at : ℕ) (deeds : List Dated) : Type 0 where
  pub lines : List ℕ
  pub split : drop from bytes ≡ lines ++ drop at bytes
  pub len : at ≡ from + length lines
  pub within : at ≤ length bytes
  pub spells : SpellsDeeds deeds lines

-- A deed is read at the front of the bytes, whose lines have so many of them, and it made this
-- entity of that one.
pub record PlaysFirst (bytes : List ℕ) (len : ℕ) (before after : EntityData) : Type 0 where
  pub dated : Dated
  pub found : first_deed bytes ≡ Some dated
  pub size : len ≡ deed_len bytes
  pub within : len ≤ length bytes
  pub made : after ≡ made_by dated before

-- The bytes between two places are the lines of deeds, which made this entity of that one.
pub record Plays (bytes : List ℕ) (from at : ℕ) (before after : EntityData) : Type 0 where
  pub deeds : List Dated
  pub reads : ReadsUpTo bytes from at deeds
  pub made : after ≡ made_of deeds before

-- Behind the lines of deeds stands what counts, but is no deed.
pub record HaltsAt (bytes : List ℕ) (from at : ℕ) : Type 0 where
  pub deeds : List Dated
  pub reads : ReadsUpTo bytes from at deeds
  pub counts : is_shut (drop at bytes) ≡ false
  pub none : first_deed (drop at bytes) ≡ None

-- A word on requests that are answered later begins the bytes: its mark has another number than
-- that of a deed.
abbrev pub begins_later : List ℕ → Bool
begins_later bytes = starts_with nat_eq bytes (codes "@3:")

-- why no deed begins at a place: a program of the format 1 has written it, a CSE that answers later
-- has, or it is none
abbrev pub fault_at : List ℕ → ℕ → OpeningFault
fault_at bytes place =
    if begins_unmarked (drop place bytes) then OldDeed (line_number bytes place) else
    if begins_later (drop place bytes) then LaterWord (line_number bytes place)
    else BadLine (line_number bytes place)

-- why the lines from a place on aren't played to their end
abbrev pub HaltsPlaying : List ℕ → ℕ → OpeningFault → Type 0
HaltsPlaying bytes from NoHeader = ⊥
HaltsPlaying bytes from OtherFormat = ⊥
HaltsPlaying bytes from OtherHome = ⊥
HaltsPlaying bytes from (BadSnapshot number) = ⊥
HaltsPlaying bytes from Unsound = ⊥
HaltsPlaying bytes from (BadLine number) =
    (at : ℕ) × HaltsAt bytes from at × (BadLine number ≡ fault_at bytes at)
HaltsPlaying bytes from (OldDeed number) =
    (at : ℕ) × HaltsAt bytes from at × (OldDeed number ≡ fault_at bytes at)
HaltsPlaying bytes from (LaterWord number) =
    (at : ℕ) × HaltsAt bytes from at × (LaterWord number ≡ fault_at bytes at)
HaltsPlaying bytes from Failed = ⊥
HaltsPlaying bytes from OutOfMemory = ⊤
