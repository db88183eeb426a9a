-- What is asked of an object and answered by it, and runs of that.
use Rattle.std.specs.Prelude.{◌≡◌, ℕ, Bool, true, false, List, [], ◌∷◌, map}
use Rattle.std.specs.List.{filter}
pub use Rattle.turn_desk.specs.declared.entry.Entry.{Entry}

-- an entry, and whether it is the seat's own or another's
pub record Marked (E O : Type 0) : Type 0 where
  pub entry : Entry E O
  pub own : Bool

-- the entry of this reading, event and outcome
abbrev pub entry_of : {E O : Type 0} → ℕ → E → O → Entry E O
entry_of reading event outcome = record { reading = reading; event = event; outcome = outcome }

-- an entry of the seat's own
abbrev pub as_own : {E O : Type 0} → Entry E O → Marked E O
as_own e = record { entry = e; own = true }

-- an entry of another seat
abbrev pub as_others : {E O : Type 0} → Entry E O → Marked E O
as_others e = record { entry = e; own = false }

-- an entry is the seat's own
abbrev pub IsOwn : {E O : Type 0} → Marked E O → Type 0
IsOwn m = m.own ≡ true

-- all entries of a list, whosever they are
abbrev pub all_entries : {E O : Type 0} → List (Marked E O) → List (Entry E O)
all_entries more = map (λ m. m.entry) more

-- the seat's own entries of a list
abbrev pub own_entries : {E O : Type 0} → List (Marked E O) → List (Entry E O)
own_entries more = all_entries (filter (λ m. m.own) more)

-- when they were asked
abbrev pub readings_of : {E O : Type 0} → List (Entry E O) → List ℕ
readings_of entries = map (λ e. e.reading) entries

-- what was asked
abbrev pub events_of : {E O : Type 0} → List (Entry E O) → List E
events_of entries = map (λ e. e.event) entries

-- what was answered
abbrev pub outcomes_of : {E O : Type 0} → List (Entry E O) → List O
outcomes_of entries = map (λ e. e.outcome) entries

-- The entries are a run of a relation, from the object before to the one after: each is a step from
-- what the one before it left.
abbrev pub Runs : {E O X : Type 0} → (ℕ → E → X → O → X → Type 0) → X → List (Entry E O) → X
    → Type 0
Runs step before [] after = after ≡ before
Runs {X = X} step before (e ∷ entries) after =
    (between : X) × step e.reading e.event before e.outcome between
    × Runs step between entries after
