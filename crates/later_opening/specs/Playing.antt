-- How far the acts of a journal are played.
use Rattle.std.specs.Prelude.{◌≡◌, ℕ, ◌+◌, ◌≤◌, false, List, ◌++◌, length, drop, Option, Some, None, ⊤}
use Rattle.filter_criteria.specs.Values.{where_it}
use Rattle.entity_model.specs.Entity.{EntityData}
use Rattle.accepted_requests.specs.Entries.{LaterRequestsData, no_entries}
use Rattle.journal_file.specs.Gates.{is_shut}
use Rattle.journal_opening.specs.Journals.{made_of}
use Rattle.journal_opening.specs.Playing.{fault_at}
use Rattle.journal_opening.specs.declared.fault.OpeningFault.{OpeningFault}
use Rattle.journal_opening.specs.declared.fault.OpeningFault.TheVariants.{NoHeader, OtherFormat}
use Rattle.journal_opening.specs.declared.fault.OpeningFault.TheVariants.{OtherHome, BadLine}
use Rattle.journal_opening.specs.declared.fault.OpeningFault.TheVariants.{BadSnapshot, Unsound}
use Rattle.journal_opening.specs.declared.fault.OpeningFault.TheVariants.{OldDeed, LaterWord}
use Rattle.journal_opening.specs.declared.fault.OpeningFault.TheVariants.{Failed, OutOfMemory}
use Rattle.later_opening.specs.Acts.{deeds_in, first_act, len_of}
use Rattle.later_opening.specs.Journals.{SpellsActs}
use Rattle.later_opening.specs.Making.{act_fits, inner_after, requests_after, requests_of}
use Rattle.later_opening.specs.declared.act.Act.{Act}

-- the act whose lines stand at the front of a text, if it fits
abbrev pub first_fitting : ℕ → LaterRequestsData → List ℕ → Option Act
first_fitting last requests text = where_it (λ act. act_fits act last requests) (first_act text)

-- The bytes between two places are the lines of these acts, from an entity on by which no request
-- was accepted.
pub record ReadsActs (bytes : List ℕ) (from at : ℕ) (base : EntityData) (acts : List Act)
    : Type 0 where
  pub lines : List ℕ
  pub split : drop from bytes ≡ lines ++ drop at bytes
  pub len : at ≡ from + length lines
  pub within : at ≤ length bytes
  pub spells : SpellsActs base no_entries acts lines

-- An act is read at the front of the bytes, whose lines have so many of them, and fits; it made
-- this of that.
pub record PlaysFirstAct (bytes : List ℕ) (len : ℕ) (before : EntityData)
    (requests : LaterRequestsData) (after : EntityData) (left : LaterRequestsData) : Type 0 where
  pub act : Act
  pub found : first_fitting before.last requests bytes ≡ Some act
  pub size : len ≡ len_of act bytes
  pub within : len ≤ length bytes
  pub inner : after ≡ inner_after act before
  pub requests_are : left ≡ requests_after act requests

-- The bytes between two places are the lines of acts, which made this of an entity by which no
-- request was accepted.
pub record PlaysActs (bytes : List ℕ) (from at : ℕ) (before after : EntityData)
    (left : LaterRequestsData) : Type 0 where
  pub acts : List Act
  pub reads : ReadsActs bytes from at before acts
  pub inner : after ≡ made_of (deeds_in acts) before
  pub requests_are : left ≡ requests_of acts no_entries

-- Behind the lines of acts stands what counts, but is no act that fits.
pub record HaltsActsAt (base : EntityData) (bytes : List ℕ) (from at : ℕ) : Type 0 where
  pub acts : List Act
  pub reads : ReadsActs bytes from at base acts
  pub counts : is_shut (drop at bytes) ≡ false
  pub none : first_fitting (made_of (deeds_in acts) base).last (requests_of acts no_entries)
      (drop at bytes) ≡ None

-- why the lines from a place on aren't played to their end
abbrev pub HaltsPlayingActs : EntityData → List ℕ → ℕ → OpeningFault → Type 0
HaltsPlayingActs base bytes from NoHeader = ⊥
HaltsPlayingActs base bytes from OtherFormat = ⊥
HaltsPlayingActs base bytes from OtherHome = ⊥
HaltsPlayingActs base bytes from (BadSnapshot number) = ⊥
HaltsPlayingActs base bytes from Unsound = ⊥
HaltsPlayingActs base bytes from (BadLine number) =
    (at : ℕ) × HaltsActsAt base bytes from at × (BadLine number ≡ fault_at bytes at)
HaltsPlayingActs base bytes from (OldDeed number) =
    (at : ℕ) × HaltsActsAt base bytes from at × (OldDeed number ≡ fault_at bytes at)
HaltsPlayingActs base bytes from (LaterWord number) =
    (at : ℕ) × HaltsActsAt base bytes from at × (LaterWord number ≡ fault_at bytes at)
HaltsPlayingActs base bytes from Failed = ⊥
HaltsPlayingActs base bytes from OutOfMemory = ⊤
