-- A file whose journal is the snapshot of an entity.
use Rattle.std.specs.Prelude.{◌≡◌, ℕ, List}
use Rattle.resource_model.specs.Home.{HomeData}
use Rattle.entity_model.specs.Entity.{EntityData}
use Rattle.entity_snapshot.specs.Snapshots.{SpellsEntity}
use Rattle.journal_file.specs.Gates.{KeepsText, at_rest}
use Rattle.journal_opening.specs.Journals.{Makes}

-- The bytes are a snapshot of this entity, at rest.
pub record IsSnapshot (e : EntityData) (bytes : List ℕ) : Type 0 where
  pub text : List ℕ
  pub spells : SpellsEntity e text
  pub rest : bytes ≡ at_rest text

-- The bytes keep a journal of this home, which makes this entity.
pub record KeepsMaking (home : HomeData) (e : EntityData) (bytes : List ℕ) : Type 0 where
  pub text : List ℕ
  pub makes : Makes home text e
  pub keeps : KeepsText text bytes
