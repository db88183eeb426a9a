-- What came of an event of a CSE that answers later, as it is handed on.
use Rattle.std.proofs.Common.{◌≡◌, inl, inr, ℕ, true, false, refl, sym, ap, subst, ◌∙◌}
use Rattle.std.specs.Prelude.{Option, Some, None}
use Rattle.std.proofs.lemmas.Bool.{true≢false}
use Rattle.entity_model.specs.Entity.{EntityData}
use Rattle.cse_machine.specs.Step.{Step}
use Rattle.cse_machine.specs.declared.event.Event.{Event}
use Rattle.cse_machine.specs.declared.event.Event.TheVariants.{Ask, Take, Tick}
use Rattle.cse_machine.specs.declared.event.Outcome.{Outcome}
use Rattle.cse_machine.specs.declared.event.Outcome.TheVariants.{Done, Forward, Item, Ticked, Starved}
use Rattle.journal_events.specs.declared.event.KeptEvent.{KeptEvent}
use Rattle.journal_events.specs.declared.event.KeptEvent.TheVariants as events
use Rattle.journal_events.specs.declared.event.KeptOutcome.{KeptOutcome}
use Rattle.journal_events.specs.declared.event.KeptOutcome.TheVariants as outcomes
use Rattle.journaled_entity.specs.Handing.{IsHandedOn, goes_on}
use Rattle.journaled_entity.proofs.HandingLemmas.{kept_handed, onward_starved}
use Rattle.later_replies.specs.Effects.{LaterEffect}
use Rattle.later_replies.specs.Entries.{LaterRequestsData}
use Rattle.later_replies.specs.Step.{IsAnsweredBy, IsTakenLater, event_effect}
use Rattle.journaled_later.specs.Steps.{IsTakenKept}

-- a request that goes on is answered by the entity inside
inside_goes_on : (effect : Option LaterEffect) (standing : LaterRequestsData) (told outcome : Outcome) (left : LaterRequestsData) → goes_on outcome ≡ true → IsAnsweredBy effect standing told outcome left → (outcome ≡ told) × (left ≡ standing)
inside_goes_on None standing told outcome left on answered = answered
inside_goes_on (Some effect) standing told outcome left on (inl other) =
    absurd (true≢false (sym on ∙ ap goes_on other.0))
inside_goes_on (Some effect) standing told outcome left on (inr other) =
    absurd (true≢false (sym on ∙ ap goes_on other.0))

module _ (reading moment : ℕ) (before after : EntityData) (standing left : LaterRequestsData) where
  -- one for which memory ran out leaves the accepted requests
  starved_stays : (event : Event) → left ≡ standing → IsAnsweredBy (event_effect before.home standing moment event (Starved 0)) standing (Starved 0) (Starved 0) left
  starved_stays (Ask request) stays = (refl, stays)
  starved_stays Take stays = (refl, stays)
  starved_stays Tick stays = (refl, stays)

  onward_taken : (event : Event) (outcome : Outcome) → IsTakenLater reading moment event before standing outcome after left → goes_on outcome ≡ true → IsTakenLater reading moment event before standing (Starved 0) after left
  onward_taken event outcome taken on =
      let inside = inside_goes_on (event_effect before.home standing moment event taken.told) standing taken.told outcome left on taken.answered in
      let step = subst (λ (o : Outcome). Step reading event before o after) (sym inside.0) taken.step in
      record {
        told = Starved 0;
        step = onward_starved reading before after event outcome step on;
        answered = starved_stays event inside.1;
      }

  -- what is handed on came of the event
  pub handed_taken : (event : KeptEvent) (told came : KeptOutcome) → IsTakenKept reading moment event before standing told after left → IsHandedOn told came → IsTakenKept reading moment event before standing came after left
  handed_taken (events.OfMachine asked) (outcomes.OfMachine outcome) came taken (inl same) =
      subst (λ (o : KeptOutcome). IsTakenKept reading moment (events.OfMachine asked) before standing o after left) (sym same) taken
  handed_taken (events.OfMachine asked) (outcomes.OfMachine outcome) came taken (inr (on, starved)) =
      subst (λ (o : KeptOutcome). IsTakenKept reading moment (events.OfMachine asked) before standing o after left) (sym starved) (onward_taken asked outcome taken on)
  handed_taken (events.OfMachine asked) (outcomes.Next given) came taken handed = absurd taken
  handed_taken (events.OfMachine asked) outcomes.Taken came taken handed = absurd taken
  handed_taken events.Next told came taken handed = (kept_handed reading before after events.Next told came taken.0 handed, taken.1)
  handed_taken (events.Sent number) told came taken handed = (kept_handed reading before after (events.Sent number) told came taken.0 handed, taken.1)
