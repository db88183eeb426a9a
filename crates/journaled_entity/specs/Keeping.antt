-- Which texts keep an entity.
use Rattle.std.specs.Prelude.{ℕ, List}
use Rattle.entity_model.specs.Entity.{EntityData}
use Rattle.journal_events.specs.Kept.{ChangesTheMomentAlone}
use Rattle.journal_opening.specs.Journals.{Makes}

-- The text is the journal of the entity's home, and makes the entity, but for its moment, which may
-- be an earlier one.
pub record KeepsEntity (e : EntityData) (text : List ℕ) : Type 0 where
  pub made : EntityData
  pub makes : Makes e.home text made
  pub same : ChangesTheMomentAlone made e
