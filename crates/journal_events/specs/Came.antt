-- What came of an event of an entity that is kept, by how it is held.
use Rattle.std.specs.Prelude.{None}
use Rattle.cse_machine.specs.declared.event.Outcome.{Outcome}
use Rattle.cse_machine.specs.declared.event.Outcome.TheVariants.{Done, Starved as Short, Ticked as Gone}
use Rattle.journal_events.specs.declared.event.KeptOutcome.{KeptOutcome}
use Rattle.journal_events.specs.declared.event.KeptOutcome.TheVariants as outcomes
use Rattle.journal_events.specs.declared.came.CameForm.{CameForm}
use Rattle.journal_events.specs.declared.came.CameForm.TheVariants.{Replied, Starved, Ticked}
use Rattle.journal_events.specs.declared.came.CameForm.TheVariants.{NoneLeft, Taken, Boxed}

-- a reply and what has no parts stand there themselves, and anything else in a box
abbrev pub came_of : CameForm → KeptOutcome
came_of (Replied reply) = outcomes.OfMachine (Done reply)
came_of (Starved done) = outcomes.OfMachine (Short done)
came_of Ticked = outcomes.OfMachine Gone
came_of NoneLeft = outcomes.Next None
came_of Taken = outcomes.Taken
came_of (Boxed kept) = kept.value

-- The outcome of the machine; or that memory ran out, where no event of it was asked.
abbrev pub machine_outcome : KeptOutcome → Outcome
machine_outcome (outcomes.OfMachine came) = came
machine_outcome (outcomes.Next given) = Short 0
machine_outcome outcomes.Taken = Short 0
