-- What came of an event, as it is handed on.
use Rattle.std.proofs.Common.{◌≡◌, inl, inr, ℕ, true, false, refl, sym, ◌∙◌, ap, subst}
use Rattle.std.specs.Prelude.{Option, Some, None, IfSome}
use Rattle.std.proofs.lemmas.Bool.{true≢false}
use Rattle.entity_model.specs.Entity.{EntityData, swept}
use Rattle.cse_machine.specs.Step.{Step, heard_members}
use Rattle.cse_machine.specs.declared.event.Event.{Event}
use Rattle.cse_machine.specs.declared.event.Event.TheVariants.{Ask, Take, Tick}
use Rattle.cse_machine.specs.declared.event.Outcome.{Outcome}
use Rattle.cse_machine.specs.declared.event.Outcome.TheVariants.{Done, Forward, Item, Ticked, Starved}
use Rattle.group_fanout.proofs.FanLemmas.{none_cut}
use Rattle.cse_machine.proofs.SameLemmas.{onward_leaves}
use Rattle.journal_events.specs.Steps.{KeptEntityStep, Looks, OnlyExpires, StepsAsMachine, TakesSent}
use Rattle.journal_events.specs.Came.{machine_outcome}
use Rattle.journal_events.specs.declared.event.KeptEvent.{KeptEvent}
use Rattle.journal_events.specs.declared.event.KeptEvent.TheVariants as events
use Rattle.journal_events.specs.declared.event.KeptOutcome.{KeptOutcome}
use Rattle.journal_events.specs.declared.event.KeptOutcome.TheVariants as outcomes
use Rattle.journaled_entity.specs.Changes.{machine_may_change, may_change}
use Rattle.journaled_entity.specs.Handing.{IsHandedOn, IsMachineHandedOn, goes_on}

-- what holds whatever came holds of what came
pub on_any : {A : Type 0} (P : Type 0) → P → (o : Option A) → IfSome o (λ _. P)
on_any P holds None = tt
on_any P holds (Some a) = holds

module _ (reading : ℕ) (before after : EntityData) where
  -- a request that goes on leaves what one leaves for which memory ran out
  pub onward_starved : (event : Event) (outcome : Outcome) → Step reading event before outcome after → goes_on outcome ≡ true → Step reading event before (Starved 0) after
  onward_starved (Ask request) (Done reply) step on = absurd (true≢false (sym on))
  onward_starved (Ask request) (Forward poa onward) step on =
      inl (none_cut (swept reading before) (heard_members (swept reading before) request) 0 after refl (onward_leaves reading request before after poa onward step))
  onward_starved (Ask request) (Item given) step on = absurd (true≢false (sym on))
  onward_starved (Ask request) Ticked step on = absurd (true≢false (sym on))
  onward_starved (Ask request) (Starved done) step on = absurd (true≢false (sym on))
  onward_starved Take (Done reply) step on = absurd step
  onward_starved Take (Forward poa onward) step on = absurd step
  onward_starved Take (Item given) step on = absurd (true≢false (sym on))
  onward_starved Take Ticked step on = absurd step
  onward_starved Take (Starved done) step on = absurd (true≢false (sym on))
  onward_starved Tick (Done reply) step on = absurd step
  onward_starved Tick (Forward poa onward) step on = absurd step
  onward_starved Tick (Item given) step on = absurd step
  onward_starved Tick Ticked step on = absurd (true≢false (sym on))
  onward_starved Tick (Starved done) step on = absurd (true≢false (sym on))

  pub handed_steps : (event : Event) (outcome : Outcome) (came : KeptOutcome) → Step reading event before outcome after → IsMachineHandedOn outcome came → StepsAsMachine reading event before came after
  handed_steps event outcome came step (inl same) =
      subst (λ (o : KeptOutcome). StepsAsMachine reading event before o after) (sym same) step
  handed_steps event outcome came step (inr (on, starved)) =
      subst (λ (o : KeptOutcome). StepsAsMachine reading event before o after) (sym starved) (onward_starved event outcome step on)

  -- what comes of an event of the machine is its outcome
  pub machine_steps : (event : Event) (came : KeptOutcome) → StepsAsMachine reading event before came after → Step reading event before (machine_outcome came) after
  machine_steps event (outcomes.OfMachine outcome) step = step
  machine_steps event (outcomes.Next given) step = absurd step
  machine_steps event outcomes.Taken step = absurd step

  -- and changes no more
  onward_quiet : (event : Event) (outcome : Outcome) → goes_on outcome ≡ true → may_change (swept reading before) event outcome after ≡ false
  onward_quiet event (Done reply) on = absurd (true≢false (sym on))
  onward_quiet (Ask request) (Forward poa onward) on = refl
  onward_quiet Take (Forward poa onward) on = refl
  onward_quiet Tick (Forward poa onward) on = refl
  onward_quiet event (Item given) on = absurd (true≢false (sym on))
  onward_quiet event Ticked on = absurd (true≢false (sym on))
  onward_quiet event (Starved done) on = absurd (true≢false (sym on))

  pub handed_quiet : (event : Event) (outcome : Outcome) (came : KeptOutcome) → IsMachineHandedOn outcome came → machine_may_change (swept reading before) event came after ≡ false → may_change (swept reading before) event outcome after ≡ false
  handed_quiet event outcome came (inl same) none =
      sym (ap (λ (o : KeptOutcome). machine_may_change (swept reading before) event o after) same) ∙ none
  handed_quiet event outcome came (inr (on, starved)) none = onward_quiet event outcome on

  -- where memory ran out, nothing else was done than what the passing of time does
  starved_still : (outcome : Outcome) → OnlyExpires reading before outcome after → OnlyExpires reading before (Starved 0) after
  starved_still outcome only = record { starved = refl; ticked = only.ticked; expires = only.expires }

  pub looks_handed : (told came : KeptOutcome) → Looks reading before told after → IsHandedOn told came → Looks reading before came after
  looks_handed (outcomes.OfMachine outcome) came looks (inl same) =
      subst (λ (o : KeptOutcome). Looks reading before o after) (sym same) looks
  looks_handed (outcomes.OfMachine outcome) came looks (inr (on, starved)) =
      subst (λ (o : KeptOutcome). Looks reading before o after) (sym starved) (starved_still outcome looks)
  looks_handed (outcomes.Next given) came looks (inl same) =
      subst (λ (o : KeptOutcome). Looks reading before o after) (sym same) looks
  looks_handed (outcomes.Next given) came looks (inr starved) =
      subst (λ (o : KeptOutcome). Looks reading before o after) (sym starved) (record { starved = refl; ticked = Ticked; expires = looks.0 })
  looks_handed outcomes.Taken came looks same = absurd looks

  takes_handed : (number : ℕ) (told came : KeptOutcome) → TakesSent number reading before told after → IsHandedOn told came → TakesSent number reading before came after
  takes_handed number (outcomes.OfMachine outcome) came takes (inl same) =
      subst (λ (o : KeptOutcome). TakesSent number reading before o after) (sym same) takes
  takes_handed number (outcomes.OfMachine outcome) came takes (inr (on, starved)) =
      subst (λ (o : KeptOutcome). TakesSent number reading before o after) (sym starved) (starved_still outcome takes)
  takes_handed number (outcomes.Next given) came takes handed = absurd takes
  takes_handed number outcomes.Taken came takes same =
      subst (λ (o : KeptOutcome). TakesSent number reading before o after) (sym same) takes

  machine_handed : (event : Event) (told came : KeptOutcome) → StepsAsMachine reading event before told after → IsHandedOn told came → StepsAsMachine reading event before came after
  machine_handed event (outcomes.OfMachine outcome) came step handed =
      handed_steps event outcome came step handed
  machine_handed event (outcomes.Next given) came step handed = absurd step
  machine_handed event outcomes.Taken came step handed = absurd step

  -- what is handed on came of the event
  pub kept_handed : (event : KeptEvent) (told came : KeptOutcome) → KeptEntityStep reading event before told after → IsHandedOn told came → KeptEntityStep reading event before came after
  kept_handed (events.OfMachine asked) told came step handed = machine_handed asked told came step handed
  kept_handed events.Next told came step handed = looks_handed told came step handed
  kept_handed (events.Sent number) told came step handed = takes_handed number told came step handed
