-- One event of a CSE that answers later.
use Rattle.std.specs.Prelude.{◌≡◌, ◌⊎◌, ℕ, Bool, false, Option, Some, None, Result, Ok, Err}
use Rattle.primitive_json.specs.declared.reply.ReplyParts.{ReplyParts}
use Rattle.primitive_json.specs.declared.request.RequestParts.{RequestParts}
use Rattle.resource_model.specs.Home.{HomeData}
use Rattle.entity_model.specs.Entity.{EntityData, event_moment}
use Rattle.cse_machine.specs.Step.{Step}
use Rattle.cse_machine.specs.declared.event.Event.{Event}
use Rattle.cse_machine.specs.declared.event.Event.TheVariants.{Ask, Take, Tick}
use Rattle.cse_machine.specs.declared.event.Outcome.{Outcome}
use Rattle.cse_machine.specs.declared.event.Outcome.TheVariants.{Done, Forward, Item, Ticked}
use Rattle.cse_machine.specs.declared.event.Outcome.TheVariants.{Starved}
use Rattle.accepted_requests.specs.Sizes.{results_size}
use Rattle.later_replies.specs.Effects.{LaterEffect, is_heard, later_effect}
use Rattle.later_replies.specs.Entries.{LaterData, LaterRequestsData}
use Rattle.later_replies.specs.Entries.{still_standing}
use Rattle.later_replies.specs.Runs.{AreBounded, ArePassed, is_to_run}

-- what comes of a request for which the entity inside has this outcome, where it is more than that
abbrev pub asked_effect : HomeData → LaterRequestsData → ℕ → RequestParts → Outcome
    → Option LaterEffect
asked_effect home requests moment request (Done reply) =
    later_effect home requests moment request reply.rsc
asked_effect home requests moment request (Forward poa onward) = None
asked_effect home requests moment request (Item given) = None
asked_effect home requests moment request Ticked = None
asked_effect home requests moment request (Starved done) = None

-- the same of an event
abbrev pub event_effect : HomeData → LaterRequestsData → ℕ → Event → Outcome → Option LaterEffect
event_effect home requests moment (Ask request) told =
    asked_effect home requests moment request told
event_effect home requests moment Take told = None
event_effect home requests moment Tick told = None

-- the outcome is a reply for which the entity inside may be answered
abbrev pub is_heard_outcome : Outcome → Bool
is_heard_outcome (Done reply) = is_heard reply.rsc
is_heard_outcome (Forward poa onward) = false
is_heard_outcome (Item given) = false
is_heard_outcome Ticked = false
is_heard_outcome (Starved done) = false

-- the outcome of a reply that was made, or for which memory ran out
abbrev pub outcome_made : {E : Type 0} → Result ReplyParts E → Outcome
outcome_made (Ok reply) = Done reply
outcome_made (Err fault) = Starved 0

-- The outcome of the entity inside stands, and the accepted requests stay; or the reply is that of
-- this effect, and so are the accepted requests; or memory ran out for that, and they stay.
abbrev pub IsAnsweredBy : Option LaterEffect → LaterRequestsData → Outcome → Outcome
    → LaterRequestsData → Type 0
IsAnsweredBy None requests told outcome after = (outcome ≡ told) × (after ≡ requests)
IsAnsweredBy (Some effect) requests told outcome after =
    ((outcome ≡ Done effect.reply) × (after ≡ effect.requests))
    ⊎ ((outcome ≡ Starved 0) × (after ≡ requests))

-- The event is a step of the entity inside, whose outcome stands, unless the request is accepted,
-- or names an accepted one.
pub record IsTakenLater (reading moment : ℕ) (event : Event) (before : EntityData)
    (standing : LaterRequestsData) (outcome : Outcome) (after : EntityData)
    (left : LaterRequestsData) : Type 0 where
  pub told : Outcome
  pub step : Step reading event before told after
  pub answered : IsAnsweredBy (event_effect before.home standing moment event told) standing told
      outcome left

-- What an event at a reading of the clock may give, and what it may leave. First the requests that
-- wait are run, each as a step of the entity inside; none is done for which too much is kept. Then
-- those that are due go. Then the event is taken.
pub record LaterStep (reading : ℕ) (event : Event) (before : LaterData) (outcome : Outcome)
    (after : LaterData) : Type 0 where
  pub moment : ℕ
  pub at : moment ≡ event_moment before.inner.last reading
  pub ran : LaterRequestsData
  pub between : EntityData
  pub runs : ArePassed reading (is_to_run moment event) before.requests.entries before.inner
      ran.entries between
  pub bounded : AreBounded (is_to_run moment event) (results_size before.requests.entries)
      before.requests.entries ran.entries
  pub given : ran.given ≡ before.requests.given
  pub taken : IsTakenLater reading moment event between (still_standing moment ran) outcome
      after.inner after.requests
