-- What an originator sees of a CSE that answers later.
use Rattle.std.specs.Prelude.{◌≡◌, ℕ, true, false, List, map, Option, Some, None, IsTrue}
use Rattle.std.specs.Prelude.{if◌then◌else◌}
use Rattle.std.specs.List.{AllByRecursion}
use Rattle.primitive_json.specs.declared.request.RequestParts.{RequestParts}
use Rattle.resource_model.specs.Home.{HomeData}
use Rattle.turn_desk.specs.Entries.{entry_of, events_of, outcomes_of, readings_of}
use Rattle.entity_model.specs.Entity.{EntityData}
use Rattle.cse_machine.specs.History.{History, IsDone}
use Rattle.cse_machine.specs.declared.event.Event.{Event}
use Rattle.cse_machine.specs.declared.event.Event.TheVariants.{Ask, Take, Tick}
use Rattle.cse_machine.specs.declared.event.Outcome.{Outcome}
use Rattle.equal_sights.specs.Sight.{sight}
use Rattle.machine_laws.specs.Sight.{IsRequestBy, is_calm, is_polling}
use Rattle.accepted_requests.specs.Effects.{owns}
use Rattle.later_replies.specs.Entries.{LaterData, LaterEntryData, does_wait}
use Rattle.later_replies.specs.Runs.{is_to_run}
use Rattle.later_laws.specs.Turns.{HasTurns, IsTurn, Ran, Turn}
use Rattle.later_replies.specs.Sound.{IsSoundLater}

-- what an originator sees of an accepted request: under which number it stands and when it was
-- accepted, by which it goes; and all of it, where it is its own
pub record SeenEntry : Type 0 where
  pub number : ℕ
  pub accepted : ℕ
  pub own : Option LaterEntryData

abbrev pub seen_entry : HomeData → List ℕ → LaterEntryData → SeenEntry
seen_entry home originator e = record {
  number = e.number;
  accepted = e.accepted;
  own = if owns home originator e then Some e else None;
}

-- what it sees of the CSE: what it sees of the entity inside, and of the accepted requests, and how
-- many were accepted
pub record LaterSight : Type 0 where
  pub inner : EntityData
  pub entries : List SeenEntry
  pub given : ℕ

abbrev pub later_sight : List ℕ → LaterData → LaterSight
later_sight originator l = record {
  inner = sight originator l.inner;
  entries = map (seen_entry l.inner.home originator) l.requests.entries;
  given = l.requests.given;
}

-- a request of the originator that names no policies or rules, and has no segment of a poll point in
-- its address
pub record IsCalmBy (home : HomeData) (originator : List ℕ) (request : RequestParts) : Type 0 where
  pub by : IsRequestBy home originator request
  pub calm : IsTrue (is_calm request)
  pub unpolled : is_polling home request ≡ false

-- What an event at a moment runs is such requests of the originator alone.
abbrev pub RunsItsOwn : List ℕ → LaterData → ℕ → Event → Type 0
RunsItsOwn originator l moment event =
    AllByRecursion (λ (e : LaterEntryData). is_to_run moment event e ≡ true
    → IsCalmBy l.inner.home originator e.request) l.requests.entries

-- If the accepted request waits, it is such a request.
abbrev pub WaitsCalm : HomeData → List ℕ → LaterEntryData → Type 0
WaitsCalm home originator e = does_wait e ≡ true → IsCalmBy home originator e.request

-- Whatever waits is such a request of the originator.
abbrev pub WaitsForItself : List ℕ → LaterData → Type 0
WaitsForItself originator l =
    AllByRecursion (WaitsCalm l.inner.home originator) l.requests.entries

-- there was memory for all that was run in a turn, and for its event
pub record HasMemory (t : Turn) : Type 0 where
  pub runs : AllByRecursion (λ (r : Ran). IsDone r.outcome) t.ran
  pub told : IsDone t.told

-- Two CSEs of which the originator sees the same answer its request alike, where the event runs
-- nothing but its own requests by them, and there is memory for all that is run and for the event
-- itself. And it sees the same of what they leave, unless the request names policies or rules.
abbrev pub EqualSightsAnswerAlikeLater : Type 0
EqualSightsAnswerAlikeLater =
    (left right after other : LaterData) (originator : List ℕ) (reading : ℕ)
    (request : RequestParts) (outcome twin : Outcome) (t s : Turn)
    → IsSoundLater left → IsSoundLater right
    → later_sight originator left ≡ later_sight originator right
    → IsRequestBy left.inner.home originator request
    → is_polling left.inner.home request ≡ false
    → (is : IsTurn left (entry_of reading (Ask request) outcome) t after)
    → (too : IsTurn right (entry_of reading (Ask request) twin) s other)
    → RunsItsOwn originator left is.moment (Ask request)
    → RunsItsOwn originator right too.moment (Ask request)
    → HasMemory t → HasMemory s → IsDone outcome → IsDone twin
    → (outcome ≡ twin)
    × (IsTrue (is_calm request) → later_sight originator after ≡ later_sight originator other)

-- ---- one after another

-- the event is such a request of the originator
abbrev pub IsCalmEventBy : HomeData → List ℕ → Event → Type 0
IsCalmEventBy home originator (Ask request) = IsCalmBy home originator request
IsCalmEventBy home originator Take = ⊥
IsCalmEventBy home originator Tick = ⊥

-- And so they answer its requests one after another, and it sees the same of what they leave, where
-- nothing but its own requests waits by them before.
abbrev pub EqualSightsStayAlikeLater : Type 0
EqualSightsStayAlikeLater =
    (left right after other : LaterData) (originator : List ℕ) (history twin : History)
    (ts ss : List Turn)
    → IsSoundLater left → IsSoundLater right
    → later_sight originator left ≡ later_sight originator right
    → WaitsForItself originator left → WaitsForItself originator right
    → HasTurns left history ts after → HasTurns right twin ss other
    → readings_of history ≡ readings_of twin → events_of history ≡ events_of twin
    → AllByRecursion (IsCalmEventBy left.inner.home originator) (events_of history)
    → AllByRecursion HasMemory ts → AllByRecursion HasMemory ss
    → AllByRecursion IsDone (outcomes_of history) → AllByRecursion IsDone (outcomes_of twin)
    → (outcomes_of history ≡ outcomes_of twin)
    × (later_sight originator after ≡ later_sight originator other)
