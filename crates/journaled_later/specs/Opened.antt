-- A CSE that answers later and is kept, as it is opened.
use Rattle.std.specs.Prelude.{ℕ, List}
use Rattle.resource_model.specs.Home.{HomeData}
use Rattle.later_replies.specs.Entries.{LaterData}
use Rattle.kept_object.specs.Crashing.{IsOpened}
use Rattle.kept_object.specs.State.{KeptData}
use Rattle.later_opening.specs.Opening.{OpensLaterAs}
use Rattle.journaled_later.specs.Keeping.{KeepsLater}

-- The CSE of a home was opened at a file: it is what the journal makes that the file keeps. All of
-- that is on the disk, and nothing waits.
pub record OpensLaterAt {F : Type 0} (tells : Type 0) (seen : F → List ℕ)
    (may_leave : F → List ℕ → Type 0) (home : HomeData) (file : F) (opened : KeptData LaterData F)
    : Type 0 where
  pub makes : tells → OpensLaterAs home (seen file) opened.journal.len opened.object
  pub whole : tells → IsOpened KeepsLater seen may_leave opened
