-- One event of a CSE (TS-0001, 10.1; TS-0004, 7.2).
use Rattle.std.specs.Prelude.{◌≡◌, ◌⊎◌, ℕ, ◌≤◌, nat_lt, List, [], length, Bool, false, is_some}
use Rattle.std.specs.Prelude.{IsTrue}
use Rattle.std.specs.Option.{option_map_or}
use Rattle.primitive_json.specs.declared.request.RequestParts.{RequestParts}
use Rattle.addressing.specs.Laws.{spot_named}
use Rattle.entity_model.specs.Entity.{EntityData, event_moment, next_note, swept, without_next}
use Rattle.entity_model.specs.Expiry.{is_some_due}
use Rattle.entity_model.specs.Places.{Check, first_fault}
use Rattle.cse_machine.specs.declared.event.Event.{Event}
use Rattle.cse_machine.specs.declared.event.Event.TheVariants.{Ask, Take, Tick}
use Rattle.cse_machine.specs.declared.event.Outcome.{Outcome}
use Rattle.cse_machine.specs.declared.event.Outcome.TheVariants.{Done, Forward, Item, Ticked, Starved}
use Rattle.cse_machine.specs.Answer.{ComesOf, first_places}
use Rattle.group_fanout.specs.Fan.{IsCutShortAt, served_members}

-- the requests to members that a request is served by, unless one of these places refuses it
abbrev pub heard_past : List Check → EntityData → RequestParts → List RequestParts
heard_past places e request =
    option_map_or (λ fault. []) (first_fault places)
    (served_members e request (spot_named e.home request.to e.nodes))

-- Those of a request that is heard.
abbrev pub heard_members : EntityData → RequestParts → List RequestParts
heard_members e request = heard_past (first_places e request) e request

-- Memory ran out for a request when so many members of a fan-out had been served: these have taken
-- effect, and nothing else has. Outside a fan-out that is none of them.
abbrev pub IsCutShort : EntityData → RequestParts → ℕ → EntityData → Type 0
IsCutShort e request done after = IsCutShortAt e (heard_members e request) done after

-- What a request may give on an entity from which what is due is gone, and the entity that it may
-- leave: one function of the two, but for want of memory.
abbrev pub IsAnswered : EntityData → RequestParts → Outcome → EntityData → Type 0
IsAnswered e request (Done reply) after = ComesOf e request (Done reply) after
IsAnswered e request (Forward poa onward) after = ComesOf e request (Forward poa onward) after
IsAnswered e request (Item given) after = ⊥
IsAnswered e request Ticked after = ⊥
IsAnswered e request (Starved done) after = IsCutShort e request done after

-- What an event may give on an entity from which what is due is gone, and the entity that it may
-- leave: a request is answered on it, and what it changes is told; or the next item of the outbox
-- is given away; or nothing is done.
abbrev pub Occurs : Event → EntityData → Outcome → EntityData → Type 0
Occurs (Ask request) e outcome after = IsAnswered e request outcome after
Occurs Take e (Done reply) after = ⊥
Occurs Take e (Forward poa onward) after = ⊥
Occurs Take e (Item given) after = (given ≡ next_note e) × (after ≡ without_next e)
Occurs Take e Ticked after = ⊥
Occurs Take e (Starved done) after = ⊥
Occurs Tick e (Done reply) after = ⊥
Occurs Tick e (Forward poa onward) after = ⊥
Occurs Tick e (Item given) after = ⊥
Occurs Tick e Ticked after = after ≡ e
Occurs Tick e (Starved done) after = ⊥

-- Memory ran out in the expiry, which takes none where nothing is due: nothing has changed.
pub record IsUnswept (reading : ℕ) (before : EntityData) (done : ℕ) (after : EntityData)
    : Type 0 where
  pub none : done ≡ 0
  pub same : after ≡ before
  pub due : IsTrue (is_some_due before.nodes (event_moment before.last reading))

-- What an event at a reading of the clock may give, and the entity that it may leave. What is due
-- goes first, and is told. Then a request is answered on what is left, and what it changes is told;
-- or the next item of the outbox is given away; or nothing else is done. Where memory runs out in
-- the expiry, nothing has changed; where it runs out for a request, nothing but what the expiry
-- changed, and so many members of a fan-out.
abbrev pub Step : ℕ → Event → EntityData → Outcome → EntityData → Type 0
Step reading (Ask request) before (Done reply) after =
    ComesOf (swept reading before) request (Done reply) after
Step reading (Ask request) before (Forward poa onward) after =
    ComesOf (swept reading before) request (Forward poa onward) after
Step reading (Ask request) before (Item given) after = ⊥
Step reading (Ask request) before Ticked after = ⊥
Step reading (Ask request) before (Starved done) after =
    IsCutShort (swept reading before) request done after ⊎ IsUnswept reading before done after
Step reading Take before (Done reply) after = ⊥
Step reading Take before (Forward poa onward) after = ⊥
Step reading Take before (Item given) after =
    (given ≡ next_note (swept reading before)) × (after ≡ without_next (swept reading before))
Step reading Take before Ticked after = ⊥
Step reading Take before (Starved done) after = IsUnswept reading before done after
Step reading Tick before (Done reply) after = ⊥
Step reading Tick before (Forward poa onward) after = ⊥
Step reading Tick before (Item given) after = ⊥
Step reading Tick before Ticked after = after ≡ swept reading before
Step reading Tick before (Starved done) after = IsUnswept reading before done after

-- ---- what stays

-- Whatever happens, an entity keeps its home; its moment is that of the event, or all stays where
-- memory ran out in the expiry; and its next number doesn't fall.
pub record IsSameEntity (reading : ℕ) (before after : EntityData) : Type 0 where
  pub home : after.home ≡ before.home
  pub last : (after.last ≡ event_moment before.last reading)
      ⊎ IsUnswept reading before 0 after
  pub next : before.next ≤ after.next

-- ---- what is taken

-- fewer items stand in the outbox than before
abbrev pub has_fewer_items : EntityData → EntityData → Bool
has_fewer_items before after = nat_lt (length after.items) (length before.items)

-- an event of which this came took an item of the outbox, where so many stood in it before, and so
-- many after: the next item was given away, or a poll was given one. A request that is answered by
-- a reply leaves fewer items only so (TS-0001, 9.6.22).
abbrev pub took_of : ℕ → ℕ → Outcome → Bool
took_of before after (Done reply) = nat_lt after before
took_of before after (Forward poa onward) = false
took_of before after (Item given) = is_some given
took_of before after Ticked = false
took_of before after (Starved done) = false

-- An event of which this came took an item of the outbox, where the expiry had left this entity.
abbrev pub took : EntityData → Outcome → EntityData → Bool
took before outcome after = took_of (length before.items) (length after.items) outcome
