-- What happens inside a CSE that answers later, event by event.
use Rattle.std.specs.Prelude.{◌≡◌, ◌⊎◌, ℕ, Bool, false, List, [], ◌∷◌, ◌++◌, map, filter, IsTrue}
use Rattle.turn_desk.specs.Entries.{entry_of}
use Rattle.turn_desk.specs.declared.entry.Entry.{Entry}
use Rattle.entity_model.specs.Entity.{EntityData, event_moment}
use Rattle.cse_machine.specs.History.{History, HistoryLeaves}
use Rattle.cse_machine.specs.Step.{Step}
use Rattle.cse_machine.specs.declared.event.Event.{Event}
use Rattle.cse_machine.specs.declared.event.Event.TheVariants.{Ask}
use Rattle.cse_machine.specs.declared.event.Outcome.{Outcome}
use Rattle.later_replies.specs.Entries.{LaterData, LaterEntryData, LaterRequestsData}
use Rattle.later_replies.specs.Entries.{still_standing}
use Rattle.later_replies.specs.Runs.{is_to_run, with_outcome}
use Rattle.later_replies.specs.Step.{IsAnsweredBy, event_effect}

-- a run: the accepted request that was run, as it stood before, and what came of it
pub record Ran : Type 0 where
  pub entry : LaterEntryData
  pub outcome : Outcome

-- the accepted request with the reply of its run
abbrev pub as_ran : Ran → LaterEntryData
as_ran r = with_outcome r.entry r.outcome

-- what one event did inside: the runs, in their order, and then the event itself
pub record Turn : Type 0 where
  pub reading : ℕ
  pub event : Event
  pub ran : List Ran
  pub told : Outcome

-- the request of a run as it is asked inside
abbrev pub run_entry : ℕ → Ran → Entry Event Outcome
run_entry reading r = entry_of reading (Ask r.entry.request) r.outcome

-- what was asked inside by the runs
abbrev pub run_history : ℕ → List Ran → History
run_history reading ran = map (run_entry reading) ran

-- what was asked inside in a turn: the runs, and then the event
abbrev pub turn_history : Turn → History
turn_history t = run_history t.reading t.ran ++ entry_of t.reading t.event t.told ∷ []

-- what was asked inside in turns, one after another
abbrev pub inner_history : List Turn → History
inner_history [] = []
inner_history (t ∷ ts) = turn_history t ++ inner_history ts

-- the runs of turns, one after another
abbrev pub all_ran : List Turn → List Ran
all_ran [] = []
all_ran (t ∷ ts) = t.ran ++ all_ran ts

-- the accepted requests behind the runs: those that were run have their replies, and the others are
-- as they were
abbrev pub AreLeft : (LaterEntryData → Bool) → List LaterEntryData → List Ran
    → List LaterEntryData → Type 0
AreLeft runs [] ran left = (ran ≡ []) × (left ≡ [])
AreLeft runs (e ∷ entries) ran left =
    (later : List Ran) × (rest : List LaterEntryData) × AreLeft runs entries later rest
    × ((IsTrue (runs e) × (r : Ran) × (r.entry ≡ e) × (ran ≡ r ∷ later) × (left ≡ as_ran r ∷ rest))
    ⊎ ((runs e ≡ false) × (ran ≡ later) × (left ≡ e ∷ rest)))

-- The turn is that of an event which is a step of a CSE that answers later: its runs are those of
-- the accepted requests that the event runs, in their order; these, and then the event itself, are
-- steps of the entity inside; each run has its reply; and what is due is gone before the event is
-- answered.
pub record IsTurn (before : LaterData) (e : Entry Event Outcome) (t : Turn) (after : LaterData)
    : Type 0 where
  pub reading : t.reading ≡ e.reading
  pub event : t.event ≡ e.event
  pub between : EntityData
  pub runs_lead : HistoryLeaves before.inner (run_history e.reading t.ran) between
  pub step : Step e.reading e.event between t.told after.inner
  pub moment : ℕ
  pub at : moment ≡ event_moment before.inner.last e.reading
  pub ran : map (λ r. r.entry) t.ran
      ≡ filter (is_to_run moment e.event) before.requests.entries
  pub left : LaterRequestsData
  pub are_left : AreLeft (is_to_run moment e.event) before.requests.entries t.ran left.entries
  pub given : left.given ≡ before.requests.given
  pub answered : IsAnsweredBy
      (event_effect before.inner.home (still_standing moment left) moment e.event t.told)
      (still_standing moment left) t.told e.outcome after.requests

-- The turns are those of the events, one after another, from the CSE before to the one after.
abbrev pub HasTurns : LaterData → History → List Turn → LaterData → Type 0
HasTurns before [] turns after = (turns ≡ []) × (after ≡ before)
HasTurns before (e ∷ events) turns after =
    (t : Turn) × (later : List Turn) × (between : LaterData) × (turns ≡ t ∷ later)
    × IsTurn before e t between × HasTurns between events later after
