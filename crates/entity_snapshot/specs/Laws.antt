-- What is written of an entity is a snapshot of it, and a text is a snapshot of one entity alone.
use Rattle.std.specs.Prelude.{◌≡◌, List, ℕ, ◌++◌, Ok, Err}
use Rattle.resource_model.specs.Home.{HomeData}
use Rattle.journal_lines.specs.Header.{first_header}
use Rattle.journal_lines.specs.declared.header.HeaderFault.TheVariants.{NoHeader}
use Rattle.entity_lines.specs.Heads.{first_head}
use Rattle.entity_lines.specs.declared.heads.Head.{Head}
use Rattle.entity_model.specs.Entity.{EntityData}
use Rattle.entity_snapshot.specs.Snapshots.{SpellsEntity}

-- No two entities of one home have snapshots of which one stands at the front of the other.
abbrev pub SnapshotsAreOfOne : Type 0
SnapshotsAreOfOne = (e f : EntityData) (one other back behind : List ℕ) → SpellsEntity e one
    → SpellsEntity f other → e.home ≡ f.home → one ++ back ≡ other ++ behind
    → (e ≡ f) × (one ≡ other)

-- A text that begins with the head of a snapshot begins with no header of a journal.
abbrev pub HeadsAreNoHeaders : Type 0
HeadsAreNoHeaders = (home : HomeData) (head : Head) (text : List ℕ)
    → first_head home text ≡ Ok head → first_header home text ≡ Err NoHeader
