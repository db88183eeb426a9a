-- What an originator sees of an entity, and that it is answered by no more than that.
use Rattle.std.specs.Prelude.{◌≡◌, ℕ, List, [], ◌∷◌, Option, Some, None, Bool, true, false, ◌&&◌, not, IsTrue}
use Rattle.std.specs.Prelude.{Result, Ok, Err, ⊤}
use Rattle.std.specs.List.{All, list_all, list_any}
use Rattle.std.specs.Str.{bytes_eq}
use Rattle.m2m_names.specs.Name.{poll_name}
use Rattle.addressing.specs.Addresses.{address_of}
use Rattle.addressing.specs.declared.addr.Addr.{Addr}
use Rattle.addressing.specs.declared.addr.AddrFault.{AddrFault}
use Rattle.addressing.specs.declared.spot.Spot.{Spot}
use Rattle.addressing.specs.declared.spot.Spot.TheVariants.{Fan, Poll, Resource}
use Rattle.group_fanout.specs.Fan.{segments_in}
use Rattle.m2m_names.specs.declared.operations.Op.{Op}
use Rattle.m2m_names.specs.declared.operations.Op.TheVariants.{Create, Retrieve, Update, Delete}
use Rattle.m2m_names.specs.declared.operations.Op.TheVariants.{Notify}
use Rattle.turn_desk.specs.Entries.{readings_of, events_of, outcomes_of}
use Rattle.primitive_json.specs.declared.request.RequestParts.{RequestParts}
use Rattle.resource_model.specs.Home.{HomeData}
use Rattle.entity_model.specs.Entity.{EntityData, swept}
use Rattle.sight_laws.specs.Laws.{changes_rules}
pub use Rattle.equal_sights.specs.Sight.{sight, shape}
use Rattle.entity_model.specs.Sound.{IsSoundEntity}
use Rattle.cse_machine.specs.declared.event.Event.{Event}
use Rattle.cse_machine.specs.declared.event.Event.TheVariants.{Ask, Take, Tick}
use Rattle.cse_machine.specs.declared.event.Outcome.{Outcome}
use Rattle.cse_machine.specs.Answer.{effect_of, spot_asked}
use Rattle.cse_machine.specs.History.{History, HistoryLeaves, IsDone}
use Rattle.group_fanout.specs.Rights.{claimed_originator}
use Rattle.cse_machine.specs.Step.{Step}

-- What an originator sees of a sound entity has the shape of that entity.
abbrev pub SightHasItsShape : Type 0
SightHasItsShape =
    (e : EntityData) (originator : List ℕ) → IsSoundEntity e
    → shape originator (sight originator e) ≡ shape originator e

-- Two entities of which the originator sees the same have one shape.
abbrev pub EqualSightsHaveOneShape : Type 0
EqualSightsHaveOneShape =
    (left right : EntityData) (originator : List ℕ)
    → IsSoundEntity left → IsSoundEntity right → sight originator left ≡ sight originator right
    → shape originator left ≡ shape originator right

-- the operations whose outcome is a function of what is seen alone, also where that isn't sound by
-- itself: a Create and an Update ask which instances a container keeps, whose sizes needn't be seen
abbrev pub asks_sight_alone : Op → Bool
asks_sight_alone Create = false
asks_sight_alone Retrieve = true
asks_sight_alone Update = false
asks_sight_alone Delete = true
asks_sight_alone Notify = true

-- the operation that updates
abbrev pub does_update : Op → Bool
does_update Create = false
does_update Retrieve = false
does_update Update = true
does_update Delete = false
does_update Notify = false

-- The request is no Update that names policies, or a policy's rules. By such a one others are
-- judged anew.
abbrev pub is_calm : RequestParts → Bool
is_calm request = not (does_update request.op && changes_rules request)

-- the segment is that of a poll point, which no resource has for its name (TS-0001, 9.6.22)
abbrev pub is_poll_segment : List ℕ → Bool
is_poll_segment segment = bytes_eq segment poll_name

-- the address has such a segment, as every address of a poll point has one
abbrev pub names_poll : Result Addr AddrFault → Bool
names_poll address = list_any is_poll_segment (segments_in address)

-- the operation that polls at a poll point
abbrev pub does_poll : Op → Bool
does_poll Create = false
does_poll Retrieve = true
does_poll Update = false
does_poll Delete = false
does_poll Notify = false

-- the spot is the poll point of a channel
abbrev pub is_poll_point : Option Spot → Bool
is_poll_point None = false
is_poll_point (Some (Resource n)) = false
is_poll_point (Some (Fan group place)) = false
is_poll_point (Some (Poll channel)) = true

-- the operation polls at the spot
abbrev pub polls_at : Op → Option Spot → Bool
polls_at op spot = does_poll op && is_poll_point spot

-- The request is a poll: a Retrieve whose address leads to a poll point (TS-0001, 9.6.22). What
-- waits for a channel isn't seen.
abbrev pub is_poll : EntityData → RequestParts → Bool
is_poll e request = polls_at request.op (spot_asked e request)

-- The request is a Retrieve whose address has the segment of a poll point, as every poll is one.
abbrev pub is_polling : HomeData → RequestParts → Bool
is_polling home request = does_poll request.op && names_poll (address_of home request.to)

-- the request is judged as this originator's
abbrev pub IsRequestBy : HomeData → List ℕ → RequestParts → Type 0
IsRequestBy home originator request = claimed_originator home request ≡ originator

-- On what it sees, an originator is answered the same, unless it polls.
abbrev pub IsAnsweredBySight : Type 0
IsAnsweredBySight =
    (e : EntityData) (originator : List ℕ) (reading : ℕ) (request : RequestParts)
    → IsSoundEntity e → IsRequestBy e.home originator request
    → IsTrue (asks_sight_alone request.op)
    → is_poll (swept reading e) request ≡ false
    → (effect_of (swept reading (sight originator e)) request).outcome
    ≡ (effect_of (swept reading e) request).outcome

-- Two entities of which the originator sees the same answer its request alike, where there is
-- memory for it, unless it polls: by the same reply, or by sending it on to the same URL.
abbrev pub EqualSightsAnswerAlike : Type 0
EqualSightsAnswerAlike =
    (left right after other : EntityData) (originator : List ℕ)
    (reading : ℕ) (request : RequestParts) (outcome twin : Outcome)
    → IsSoundEntity left → IsSoundEntity right → sight originator left ≡ sight originator right
    → IsRequestBy left.home originator request
    → is_poll (swept reading left) request ≡ false
    → Step reading (Ask request) left outcome after
    → Step reading (Ask request) right twin other → IsDone outcome → IsDone twin
    → outcome ≡ twin

-- And the originator sees the same of what they leave, also where it polls, unless the request
-- names policies or rules.
abbrev pub EqualSightsStayEqual : Type 0
EqualSightsStayEqual =
    (left right after other : EntityData) (originator : List ℕ)
    (reading : ℕ) (request : RequestParts) (outcome twin : Outcome)
    → IsSoundEntity left → IsSoundEntity right → sight originator left ≡ sight originator right
    → IsRequestBy left.home originator request → IsTrue (is_calm request)
    → Step reading (Ask request) left outcome after
    → Step reading (Ask request) right twin other → IsDone outcome → IsDone twin
    → sight originator after ≡ sight originator other

-- Whatever the request, they have one shape for it afterwards.
abbrev pub EqualSightsKeepOneShape : Type 0
EqualSightsKeepOneShape =
    (left right after other : EntityData) (originator : List ℕ)
    (reading : ℕ) (request : RequestParts) (outcome twin : Outcome)
    → IsSoundEntity left → IsSoundEntity right → sight originator left ≡ sight originator right
    → IsRequestBy left.home originator request
    → Step reading (Ask request) left outcome after
    → Step reading (Ask request) right twin other → IsDone outcome → IsDone twin
    → shape originator after ≡ shape originator other

-- ---- histories

-- the event is a request of the originator, or time has passed
abbrev pub IsBy : HomeData → List ℕ → Event → Type 0
IsBy home originator (Ask request) = IsRequestBy home originator request
IsBy home originator Take = ⊥
IsBy home originator Tick = ⊤

-- the event is no request by which others are judged anew
abbrev pub is_calm_event : Event → Bool
is_calm_event (Ask request) = is_calm request
is_calm_event Take = true
is_calm_event Tick = true

-- each of the events but the last is so
abbrev pub are_calm_but_last : List Event → Bool
are_calm_but_last [] = true
are_calm_but_last (event ∷ []) = true
are_calm_but_last (event ∷ next ∷ events) =
    is_calm_event event && are_calm_but_last (next ∷ events)

-- the event polls an entity from which what is due is gone
abbrev pub does_event_poll : EntityData → Event → Bool
does_event_poll e (Ask request) = is_poll e request
does_event_poll e Take = false
does_event_poll e Tick = false

-- no event of a history polls the entity that it finds
abbrev pub NonePolls :
    (e : EntityData) (history : History) (after : EntityData) → HistoryLeaves e history after
    → Type 0
NonePolls e [] after leaves = ⊤
NonePolls e (h ∷ history) after leaves =
    (does_event_poll (swept h.reading e) h.event ≡ false)
    × NonePolls leaves.0 history after leaves.2

-- the event is a Retrieve of an address that has the segment of a poll point
abbrev pub is_polling_event : HomeData → Event → Bool
is_polling_event home (Ask request) = is_polling home request
is_polling_event home Take = false
is_polling_event home Tick = false

-- Where no Retrieve of a history has an address with the segment of a poll point, none of its events
-- polls.
abbrev pub WithoutTheSegmentNonePolls : Type 0
WithoutTheSegmentNonePolls =
    (e after : EntityData) (history : History) (leaves : HistoryLeaves e history after)
    → list_any (is_polling_event e.home) (events_of history) ≡ false
    → NonePolls e history after leaves

-- The entries of two histories have the same outcomes, one after another, but for those that poll.
abbrev pub HaveAnswersOf :
    (e : EntityData) (history : History) (after : EntityData) → HistoryLeaves e history after
    → History → Type 0
HaveAnswersOf e [] after leaves twin = ⊤
HaveAnswersOf e (h ∷ history) after leaves [] = ⊤
HaveAnswersOf e (h ∷ history) after leaves (t ∷ twin) =
    (does_event_poll (swept h.reading e) h.event ≡ false → h.outcome ≡ t.outcome)
    × HaveAnswersOf leaves.0 history after leaves.2 twin

-- Two entities of which the originator sees the same answer its requests, one after another at the
-- same readings, alike, where there is memory for all of them, up to and with the first that names
-- policies or rules. They have one shape for it afterwards; and it sees the same of what they
-- leave, where none names them. Time may pass between its requests, but no item is taken: what
-- waits isn't seen, and so a poll alone may be answered otherwise.
abbrev pub EqualSightsStayAlike : Type 0
EqualSightsStayAlike =
    (left right after other : EntityData) (originator : List ℕ) (history twin : History)
    → IsSoundEntity left → IsSoundEntity right → sight originator left ≡ sight originator right
    → (leaves : HistoryLeaves left history after) → HistoryLeaves right twin other
    → readings_of history ≡ readings_of twin → events_of history ≡ events_of twin
    → All (IsBy left.home originator) (events_of history)
    → IsTrue (are_calm_but_last (events_of history))
    → All IsDone (outcomes_of history) → All IsDone (outcomes_of twin)
    → HaveAnswersOf left history after leaves twin
    × (IsTrue (list_all is_calm_event (events_of history))
    → sight originator after ≡ sight originator other)
    × (shape originator after ≡ shape originator other)
