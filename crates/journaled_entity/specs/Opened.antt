-- An entity that is kept, as it is opened.
use Rattle.std.specs.Prelude.{ℕ, List}
use Rattle.resource_model.specs.Home.{HomeData}
use Rattle.entity_model.specs.Entity.{EntityData}
use Rattle.journal_opening.specs.Opening.{OpensAs}
use Rattle.kept_object.specs.Crashing.{IsOpened}
use Rattle.kept_object.specs.State.{KeptData}
use Rattle.journaled_entity.specs.Keeping.{KeepsEntity}

-- The entity of a home was opened at a file: it is what the journal makes that the file keeps. All
-- of that is on the disk, and nothing waits.
pub record OpensAt {F : Type 0} (tells : Type 0) (seen : F → List ℕ)
    (may_leave : F → List ℕ → Type 0) (home : HomeData) (file : F) (opened : KeptData EntityData F)
    : Type 0 where
  pub makes : tells → OpensAs home (seen file) opened.journal.len opened.object
  pub whole : tells → IsOpened KeepsEntity seen may_leave opened
