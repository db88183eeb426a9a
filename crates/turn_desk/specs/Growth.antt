-- How a seat grows: by entries, each its own or another's.
use Rattle.std.specs.Prelude.{◌≡◌, ℕ, List, [], ◌∷◌, ◌++◌, map}
use Rattle.std.specs.List.{All}
use Rattle.turn_desk.specs.Entries.{Entry, Marked, as_own, as_others, IsOwn, all_entries}
use Rattle.turn_desk.specs.Entries.{own_entries, readings_of, events_of, outcomes_of, Runs}

-- A seat asked: it grew by others' entries, and then by its own entry, which is this one.
pub record Asks {S E O : Type 0} (grown : S → List (Marked E O) → S
    → Type 0) (before : S) (answer : Entry E O) (after : S) : Type 0 where
  pub others : List (Entry E O)
  pub grew : grown before (map as_others others ++ as_own answer ∷ []) after

-- A seat grew, and its own entries of that are these, in order.
pub record Grew {S E O : Type 0} (grown : S → List (Marked E O) → S
    → Type 0) (before : S) (mine : List (Entry E O)) (after : S) : Type 0 where
  pub more : List (Marked E O)
  pub grew : grown before more after
  pub mine_only : own_entries more ≡ mine

-- A seat grew, and its own entries of that have these readings, these events and these outcomes, in
-- order.
pub record AsksAll {S E O : Type 0} (grown : S → List (Marked E O) → S
    → Type 0) (before : S) (readings : List ℕ) (events : List E) (outcomes : List O)
    (after : S) : Type 0 where
  pub mine : List (Entry E O)
  pub grew : Grew grown before mine after
  pub readings_are : readings_of mine ≡ readings
  pub events_are : events_of mine ≡ events
  pub outcomes_are : outcomes_of mine ≡ outcomes

-- every entry is the seat's own, and they are a run from the object before to the one after
pub record IsOwnRun {X E O : Type 0} (step : ℕ → E → X → O → X
    → Type 0) (before : X) (more : List (Marked E O)) (after : X) : Type 0 where
  pub all_own : All IsOwn more
  pub run : Runs step before (all_entries more) after
