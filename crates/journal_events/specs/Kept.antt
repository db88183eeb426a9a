-- What is kept of a history, and what it makes.
use Rattle.std.specs.Prelude.{◌≡◌, ◌⊎◌, ℕ, ◌≤◌, List, [], ◌∷◌, length}
use Rattle.turn_desk.specs.declared.entry.Entry.{Entry}
use Rattle.entity_model.specs.Entity.{EntityData, last_reading, swept}
use Rattle.entity_model.specs.Sound.{IsSoundEntity}
use Rattle.cse_machine.specs.History.{History, HistoryLeaves, IsDone}
use Rattle.cse_machine.specs.Step.{Step}
use Rattle.cse_machine.specs.declared.event.Event.{Event}
use Rattle.cse_machine.specs.declared.event.Outcome.{Outcome}

-- an entity at another moment
abbrev pub at_moment : ℕ → EntityData → EntityData
at_moment moment e = record e { last = moment }

-- Nothing changed but the moment, which didn't fall.
pub record ChangesTheMomentAlone (before after : EntityData) : Type 0 where
  pub same : after ≡ at_moment after.last before
  pub later : before.last ≤ after.last

-- An entry stands for what changed an entity: it has the moment of the entity after it, and from
-- the one before it it gives this one. There was memory for it.
pub record StandsFor (kept : Entry Event Outcome) (before after : EntityData) : Type 0 where
  pub gives : Step kept.reading kept.event before kept.outcome after
  pub done : IsDone kept.outcome
  pub moment : kept.reading ≡ after.last
  pub later : before.last ≤ after.last
  pub within : after.last ≤ last_reading

-- These are kept of a history that led from an entity to another one: one that stands for each
-- entry which changed more than the moment, in order.
abbrev pub AreKeptOf : EntityData → History → History → EntityData → Type 0
AreKeptOf before [] kept after = (kept ≡ []) × (after ≡ before)
AreKeptOf before (entry ∷ history) kept after = (between : EntityData)
    × Step entry.reading entry.event before entry.outcome between
    × ((ChangesTheMomentAlone before between × AreKeptOf between history kept after)
    ⊎ ((first : Entry Event Outcome) × (rest : History) × (kept ≡ first ∷ rest)
    × StandsFor first before between × AreKeptOf between history rest after))

-- What is kept of a history is a history from the same opening, which leaves the same entity at the
-- same moment or an earlier one.
abbrev pub WhatIsKeptMakesTheEntity : Type 0
WhatIsKeptMakesTheEntity = (opening after : EntityData) (history kept : History)
    → AreKeptOf opening history kept after
    → (made : EntityData) × HistoryLeaves opening kept made
    × ChangesTheMomentAlone made after

-- An expiry that takes no resource and no item, and adds none, changes nothing but the moment.
abbrev pub SweepsThatTakeNothingChangeNothing : Type 0
SweepsThatTakeNothingChangeNothing = (reading : ℕ) (e : EntityData) → IsSoundEntity e
    → length (swept reading e).nodes ≡ length e.nodes
    → length (swept reading e).items ≡ length e.items
    → ChangesTheMomentAlone e (swept reading e)
