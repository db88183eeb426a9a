-- What is done and written down for who sends.
use Rattle.std.proofs.Common.{◌≡◌, ◌⊎◌, inl, ℕ, ◌<◌, Bool, true, false, List, ◌++◌, refl, sym, ◌∙◌, ap, subst}
use Rattle.std.specs.Prelude.{Option, Result, Ok, Err, IfOk, OnErr, if◌then◌else◌}
use Rattle.std.proofs.lemmas.Bool.{true≢false}
use Rattle.notify_outbox.specs.declared.item.Item.{Item as Given}
use Rattle.entity_model.specs.Entity.{EntityData, event_moment, next_note, swept, without_next}
use Rattle.entity_model.specs.Sound.{IsSoundEntity}
use Rattle.cse_machine.specs.Step.{Step}
use Rattle.cse_machine.specs.declared.event.Event.TheVariants.{Take, Tick}
use Rattle.cse_machine.specs.declared.event.Outcome.{Outcome}
use Rattle.cse_machine.specs.declared.event.Outcome.TheVariants.{Done, Forward, Item, Ticked, Starved}
use Rattle.cse_machine.proofs.SameLemmas.{same_entity}
use Rattle.journal_events.specs.Steps.{KeptEntityStep, Looks, OnlyExpires, TakesSent, is_next, next_item, without_sent}
use Rattle.journal_events.specs.declared.event.KeptEvent.{KeptEvent}
use Rattle.journal_events.specs.declared.event.KeptEvent.TheVariants as events
use Rattle.journal_events.specs.declared.event.KeptOutcome.{KeptOutcome}
use Rattle.journal_events.specs.declared.event.KeptOutcome.TheVariants as outcomes
use Rattle.journal_events.proofs.LossLemmas.{ticked}
use Rattle.journal_events.specs.Kept.{ChangesTheMomentAlone}
use Rattle.journal_lines.specs.Lines.{lines_of, moment_bound}
use Rattle.journal_lines.specs.declared.deed.Deed.TheVariants as deeds
use Rattle.journal_opening.specs.Journals.{done_at}
use Rattle.kept_object.specs.Records.{Records}
use Rattle.journaled_entity.specs.Changes.{differs, is_kept_short, is_ticked, may_change_kept}
use Rattle.journaled_entity.specs.Keeping.{KeepsEntity}
use Rattle.journaled_entity.proofs.ChangeLemmas.{expiry_alone}
use Rattle.journaled_entity.proofs.KeepLemmas.{deed_recorded, expiry_recorded, quiet_recorded, swept_then, take_read, unchanged}

-- ---- the item that is sent next

pub kept_unsent : (number : ℕ) (e : EntityData) → is_next number e ≡ false → without_sent number e ≡ e
kept_unsent number e other = ap (λ (b : Bool). if b then without_next e else e) other

pub taken_sent : (number : ℕ) (e : EntityData) → is_next number e ≡ true → without_sent number e ≡ without_next e
taken_sent number e next = ap (λ (b : Bool). if b then without_next e else e) next

-- ---- what may not have changed more than an expiry does

pub kept_expiry_alone : (reading : ℕ) (event : KeptEvent) (outcome : KeptOutcome) (before after : EntityData)
    → KeptEntityStep reading event before outcome after → is_kept_short outcome ≡ false → may_change_kept reading before event outcome after ≡ false
    → (after ≡ swept reading before) ⊎ (after ≡ before)
kept_expiry_alone reading (events.OfMachine asked) (outcomes.OfMachine came) before after step short none = expiry_alone reading asked came before after step short none
kept_expiry_alone reading (events.OfMachine asked) (outcomes.Next given) before after step short none = absurd step
kept_expiry_alone reading (events.OfMachine asked) outcomes.Taken before after step short none = absurd step
kept_expiry_alone reading events.Next (outcomes.OfMachine came) before after step short none = ticked reading step.ticked before after step.expires
kept_expiry_alone reading events.Next (outcomes.Next given) before after step short none = inl step.0
kept_expiry_alone reading events.Next outcomes.Taken before after step short none = absurd step
kept_expiry_alone reading (events.Sent number) (outcomes.OfMachine came) before after step short none = ticked reading step.ticked before after step.expires
kept_expiry_alone reading (events.Sent number) (outcomes.Next given) before after step short none = absurd step
kept_expiry_alone reading (events.Sent number) outcomes.Taken before after step short none = inl (step ∙ kept_unsent number (swept reading before) none)

-- ---- an expiry, and nothing else

ticked_swept : (reading : ℕ) (came : Outcome) (before after : EntityData) → Step reading Tick before came after → is_ticked came ≡ true → after ≡ swept reading before
ticked_swept reading (Done reply) before after step is = absurd step
ticked_swept reading (Forward poa onward) before after step is = absurd step
ticked_swept reading (Item given) before after step is = absurd step
ticked_swept reading Ticked before after step is = step
ticked_swept reading (Starved done) before after step is = absurd (true≢false (sym is))

unticked_same : (reading : ℕ) (came : Outcome) (before after : EntityData) → Step reading Tick before came after → is_ticked came ≡ false → after ≡ before
unticked_same reading (Done reply) before after step is = absurd step
unticked_same reading (Forward poa onward) before after step is = absurd step
unticked_same reading (Item given) before after step is = absurd step
unticked_same reading Ticked before after step is = absurd (true≢false is)
unticked_same reading (Starved done) before after step is = step.same

module _ (reading : ℕ) (came : Outcome) (before after : EntityData) (step : Step reading Tick before came after) where
  pub only_expires : OnlyExpires reading before (Starved 0) after
  only_expires = record { starved = refl; ticked = came; expires = step }

  pub looks_starved : (told : KeptOutcome) → told ≡ outcomes.OfMachine (Starved 0) → Looks reading before told after
  looks_starved told is = subst (λ (o : KeptOutcome). Looks reading before o after) (sym is) only_expires

  pub takes_starved : (number : ℕ) (told : KeptOutcome) → told ≡ outcomes.OfMachine (Starved 0) → TakesSent number reading before told after
  takes_starved number told is = subst (λ (o : KeptOutcome). TakesSent number reading before o after) (sym is) only_expires

  pub looks_told : is_ticked came ≡ true → {E : Type 0} (copied : Result (Option Given) E) (told : KeptOutcome) → IfOk copied (λ given. given ≡ next_item after)
      → IfOk copied (λ given. told ≡ outcomes.Next given) → OnErr copied (told ≡ outcomes.OfMachine (Starved 0)) → Looks reading before told after
  looks_told is (Ok given) told found tells none =
      subst (λ (o : KeptOutcome). Looks reading before o after) (sym tells) (ticked_swept reading came before after step is, found)
  looks_told is (Err fault) told found tells none = looks_starved told none

  -- where memory ran out for it, nothing is written
  pub starved_recorded : is_ticked came ≡ false → (lines now : List ℕ) → now ≡ lines → Records KeepsEntity before lines after now
  starved_recorded is lines now none =
      subst (Records KeepsEntity before lines after) (sym none)
      (quiet_recorded before after lines
      (subst (ChangesTheMomentAlone before) (sym (unticked_same reading came before after step is)) (unchanged before)))

-- ---- the taking of what was sent

module _ (reading moment number : ℕ) (came : Outcome) (before between after : EntityData) (sound : IsSoundEntity before) (step : Step reading Tick before came between)
    (is : is_ticked came ≡ true) (left : after ≡ without_sent number between) where
  between_is : between ≡ swept reading before
  between_is = ticked_swept reading came before between step is

  pub taking_steps : TakesSent number reading before outcomes.Taken after
  taking_steps = left ∙ ap (without_sent number) between_is

  -- it was the next one
  module _ (next : is_next number between ≡ true) where
    taken_is : after ≡ without_next (swept reading before)
    taken_is = left ∙ taken_sent number between next ∙ ap without_next between_is

    pub taking_recorded : moment ≡ event_moment before.last reading → moment < moment_bound → (lines now : List ℕ) → now ≡ lines ++ lines_of moment deeds.Take
        → Records KeepsEntity before lines after now
    taking_recorded at small lines now written =
        let makes : done_at moment deeds.Take before ≡ after = ap without_next (swept_then reading moment before sound.last at) ∙ sym taken_is in
        let home = (same_entity reading Take (Item (next_note (swept reading before))) before after (refl, taken_is)).home in
        subst (Records KeepsEntity before lines after) (sym written)
        (deed_recorded reading moment deeds.Take before after sound.last at small take_read makes home lines)

    pub taking_changes : is_next number (swept reading before) ≡ false → ⊥
    taking_changes none = true≢false (sym next ∙ ap (is_next number) between_is ∙ none)

  -- it wasn't
  module _ (other : is_next number between ≡ false) where
    pub kept_between : after ≡ between
    kept_between = left ∙ kept_unsent number between other

    pub leaving_recorded : moment ≡ event_moment before.last reading → moment < moment_bound → (lines now : List ℕ)
        → (differs before between ≡ false → now ≡ lines) → (differs before between ≡ true → now ≡ lines ++ lines_of moment deeds.Tick)
        → Records KeepsEntity before lines after now
    leaving_recorded at small lines now nothing tick =
        expiry_recorded reading moment Tick Ticked before after lines now sound (kept_between ∙ between_is) refl refl at small
        (λ alike. nothing (sym (ap (differs before) kept_between) ∙ alike)) (λ differ. tick (sym (ap (differs before) kept_between) ∙ differ))
