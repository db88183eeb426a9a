-- What the journal of a CSE that answers later is.
use Rattle.std.specs.Prelude.{◌≡◌, ℕ, true, List, [], ◌∷◌, ◌++◌}
use Rattle.resource_model.specs.Home.{HomeData}
use Rattle.entity_model.specs.Entity.{EntityData}
use Rattle.accepted_requests.specs.Entries.{LaterRequestsData, no_entries}
use Rattle.later_replies.specs.Entries.{LaterData}
use Rattle.journal_opening.specs.Journals.{SpellsOpening}
use Rattle.later_opening.specs.Acts.{SpellsAct}
use Rattle.later_opening.specs.Making.{act_fits, inner_after, made_of_acts, requests_after}
use Rattle.later_opening.specs.declared.act.Act.{Act}

-- The text is the lines of these acts, one after another, each of which fits where it stands, from
-- this entity and these accepted requests on.
abbrev pub SpellsActs : EntityData → LaterRequestsData → List Act → List ℕ → Type 0
SpellsActs e requests [] text = text ≡ []
SpellsActs e requests (act ∷ acts) text = (front : List ℕ) × (back : List ℕ)
    × (text ≡ front ++ back) × SpellsAct act front × (act_fits act e.last requests ≡ true)
    × SpellsActs (inner_after act e) (requests_after act requests) acts back

-- A text is the journal of a home: it says with which entity it begins, and behind that it is the
-- lines of these acts.
pub record IsLaterJournalOf (home : HomeData) (base : EntityData) (acts : List Act)
    (text : List ℕ) : Type 0 where
  pub front : List ℕ
  pub lines : List ℕ
  pub split : text ≡ front ++ lines
  pub opens : SpellsOpening home base front
  pub spells : SpellsActs base no_entries acts lines

-- A text is the journal of a home, and this CSE is what it makes.
pub record MakesLater (home : HomeData) (text : List ℕ) (d : LaterData) : Type 0 where
  pub base : EntityData
  pub acts : List Act
  pub journal : IsLaterJournalOf home base acts text
  pub made : d ≡ made_of_acts acts base
