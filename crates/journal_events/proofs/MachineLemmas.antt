-- Each event is one of the machine.
use Rattle.std.proofs.Common.{◌≡◌, ℕ, inl, inr, true, false, sym, ◌∙◌, ap, subst, refl}
use Rattle.std.specs.Prelude.{Bool, if◌then◌else◌}
use Rattle.std.proofs.lemmas.Bool.{cases_Bool}
use Rattle.entity_model.specs.Entity.{EntityData, next_note, swept, without_next}
use Rattle.cse_machine.specs.Step.{Step}
use Rattle.cse_machine.specs.declared.event.Event.{Event}
use Rattle.cse_machine.specs.declared.event.Event.TheVariants.{Take, Tick}
use Rattle.cse_machine.specs.declared.event.Outcome.{Outcome}
use Rattle.cse_machine.specs.declared.event.Outcome.TheVariants as gives
use Rattle.journal_events.specs.Machine.{EachEventIsOneOfTheMachine, machine_event, sent_event}
use Rattle.journal_events.specs.Steps.{KeptEntityStep, is_next, without_sent}
use Rattle.journal_events.specs.declared.event.KeptEvent.{KeptEvent}
use Rattle.journal_events.specs.declared.event.KeptEvent.TheVariants as events
use Rattle.journal_events.specs.declared.event.KeptOutcome.{KeptOutcome}
use Rattle.journal_events.specs.declared.event.KeptOutcome.TheVariants as outcomes

-- by the event of the machine
abbrev Steps : ℕ → Event → EntityData → EntityData → Type 0
Steps reading asked before after = (came : Outcome) × Step reading asked before came after

sent : (number reading : ℕ) (before after : EntityData) → after ≡ without_sent number (swept reading before)
    → Steps reading (sent_event number reading before) before after
sent number reading before after left = elim (cases_Bool (is_next number (swept reading before))) [
  | inl t ↦
      let is : sent_event number reading before ≡ Take = ap (λ (b : Bool). if b then Take else Tick) t in
      let taken : after ≡ without_next (swept reading before) = left ∙ ap (λ (b : Bool). if b then without_next (swept reading before) else swept reading before) t in
      subst (λ (asked : Event). Steps reading asked before after) (sym is) (gives.Item (next_note (swept reading before)), (refl, taken))
  | inr f ↦
      let is : sent_event number reading before ≡ Tick = ap (λ (b : Bool). if b then Take else Tick) f in
      let kept : after ≡ swept reading before = left ∙ ap (λ (b : Bool). if b then without_next (swept reading before) else swept reading before) f in
      subst (λ (asked : Event). Steps reading asked before after) (sym is) (gives.Ticked, kept)
]

pub one_of_machine : EachEventIsOneOfTheMachine
one_of_machine = λ reading event outcome before after step. by reading event outcome before after step
  where
    by : (reading : ℕ) (event : KeptEvent) (outcome : KeptOutcome) (before after : EntityData) → KeptEntityStep reading event before outcome after
        → Steps reading (machine_event reading before event outcome) before after
    by reading (events.OfMachine asked) (outcomes.OfMachine came) before after step = (came, step)
    by reading (events.OfMachine asked) (outcomes.Next given) before after step = absurd step
    by reading (events.OfMachine asked) outcomes.Taken before after step = absurd step
    by reading events.Next (outcomes.OfMachine came) before after step = (step.ticked, step.expires)
    by reading events.Next (outcomes.Next given) before after step = (gives.Ticked, step.0)
    by reading events.Next outcomes.Taken before after step = absurd step
    by reading (events.Sent number) (outcomes.OfMachine came) before after step = (step.ticked, step.expires)
    by reading (events.Sent number) (outcomes.Next given) before after step = absurd step
    by reading (events.Sent number) outcomes.Taken before after step = sent number reading before after step
