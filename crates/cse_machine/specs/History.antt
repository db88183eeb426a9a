-- What has happened at a CSE: its events one after another, with their readings and outcomes.
use Rattle.std.specs.Prelude.{List, ⊤}
use Rattle.turn_desk.specs.declared.entry.Entry.{Entry}
use Rattle.turn_desk.specs.Entries.{Runs}
use Rattle.entity_model.specs.Entity.{EntityData}
use Rattle.cse_machine.specs.declared.event.Event.{Event}
use Rattle.cse_machine.specs.declared.event.Outcome.{Outcome}
use Rattle.cse_machine.specs.declared.event.Outcome.TheVariants.{Done, Forward, Item, Ticked, Starved}
use Rattle.cse_machine.specs.Step.{Step}

-- an event with its reading and its outcome, and a list of them
abbrev pub History : Type 0
History = List (Entry Event Outcome)

-- the entries are steps one after another, from the entity that opened to this one
abbrev pub HistoryLeaves : EntityData → History → EntityData → Type 0
HistoryLeaves opening history e = Runs Step opening history e

-- there was memory for it
abbrev pub IsDone : Outcome → Type 0
IsDone (Done reply) = ⊤
IsDone (Forward poa onward) = ⊤
IsDone (Item given) = ⊤
IsDone Ticked = ⊤
IsDone (Starved done) = ⊥
