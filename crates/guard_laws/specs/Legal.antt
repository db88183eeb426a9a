-- Which histories are legal, and that they go one way.
use Rattle.std.specs.Prelude.{◌≡◌, ℕ, [], ◌∷◌, ◌++◌}
use Rattle.std.specs.List.{All}
use Rattle.turn_desk.specs.Entries.{entry_of, readings_of, events_of, outcomes_of}
use Rattle.entity_model.specs.Entity.{EntityData}
use Rattle.entity_model.specs.Sound.{IsSoundEntity}
use Rattle.cse_machine.specs.declared.event.Event.{Event}
use Rattle.cse_machine.specs.declared.event.Outcome.{Outcome}
use Rattle.cse_machine.specs.History.{History, HistoryLeaves, IsDone}
use Rattle.cse_machine.specs.Step.{Step}

-- Where nothing has happened, the entity is the one that opened.
abbrev pub BeginsLegal : Type 0
BeginsLegal = (opening : EntityData) → HistoryLeaves opening [] opening

-- A history grows by a step of the entity that it leaves.
abbrev pub StaysLegal : Type 0
StaysLegal =
    (opening before after : EntityData) (history : History)
    (reading : ℕ) (event : Event) (outcome : Outcome)
    → HistoryLeaves opening history before → Step reading event before outcome after
    → HistoryLeaves opening (history ++ entry_of reading event outcome ∷ []) after

-- A sound entity is sound after every history.
abbrev pub StaysSound : Type 0
StaysSound =
    (opening e : EntityData) (history : History)
    → IsSoundEntity opening → HistoryLeaves opening history e → IsSoundEntity e

-- Two histories from one entity that have the same events at the same readings have the same
-- outcomes and leave the same entity, where there was memory for all of them.
abbrev pub GoesOneWay : Type 0
GoesOneWay =
    (opening e other : EntityData) (history twin : History)
    → HistoryLeaves opening history e → HistoryLeaves opening twin other
    → readings_of history ≡ readings_of twin → events_of history ≡ events_of twin
    → All IsDone (outcomes_of history) → All IsDone (outcomes_of twin)
    → (outcomes_of history ≡ outcomes_of twin) × (e ≡ other)

-- An entry of a legal history is a step of the sound entity that the entries before it left. So
-- what holds of each step of a sound entity holds of each entry.
abbrev pub EntriesAreSteps : Type 0
EntriesAreSteps =
    (opening e : EntityData) (earlier later : History)
    (reading : ℕ) (event : Event) (outcome : Outcome)
    → IsSoundEntity opening
    → HistoryLeaves opening (earlier ++ entry_of reading event outcome ∷ later) e
    → (before : EntityData) × (after : EntityData)
    × HistoryLeaves opening earlier before × IsSoundEntity before
    × Step reading event before outcome after
    × HistoryLeaves opening (earlier ++ entry_of reading event outcome ∷ []) after
