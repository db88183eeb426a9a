-- Which texts keep a CSE that answers later.
use Rattle.std.specs.Prelude.{◌≡◌, ℕ, List}
use Rattle.later_replies.specs.Entries.{LaterData}
use Rattle.journal_events.specs.Kept.{ChangesTheMomentAlone}
use Rattle.later_opening.specs.Journals.{MakesLater}

-- One CSE has the accepted requests of the other, and its entity, but for the moment, which may be
-- an earlier one.
pub record IsAtEarlier (made d : LaterData) : Type 0 where
  pub inner : ChangesTheMomentAlone made.inner d.inner
  pub requests : made.requests ≡ d.requests

-- The text is the journal of the CSE's home, and makes it, but for its moment.
pub record KeepsLater (d : LaterData) (text : List ℕ) : Type 0 where
  pub made : LaterData
  pub makes : MakesLater d.inner.home text made
  pub same : IsAtEarlier made d
