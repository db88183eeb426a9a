use Rattle.std.proofs.Common.{◌≡◌, ◌≤◌, length, refl, sym, subst, arith}
use Rattle.entity_model.specs.Entity.{EntityData}
use Rattle.cse_machine.specs.Step.{Step}
use Rattle.cse_machine.specs.declared.event.Outcome.{Outcome}
use Rattle.cse_machine.specs.declared.event.Outcome.TheVariants.{Done}
use Rattle.journal_events.specs.Steps.{StepsAsMachine}
use Rattle.journal_events.specs.declared.event.KeptOutcome.{KeptOutcome}
use Rattle.journaled_entity.specs.Handing.{IsUncutHandedOn}
use Rattle.journaled_entity.proofs.ChangeLemmas.{still_alone}
use Rattle.journaled_entity.proofs.HandingLemmas.{handed_steps}
use Rattle.journaled_entity.proofs.KeepLemmas.{on_some}
use Rattle.journaled_entity.proofs.recording.Journaled.record_still.Goals as goal

-- no reply
pub returns-in_default-clause-step : goal.returns-in_default-clause-step
returns-in_default-clause-step g c =
    let before = c.args.self.now in
    let left = c.step.new.entity in
    let step : Step c.args.reading c.args.event.now before c.step.result left =
    subst (λ (e : EntityData). Step c.args.reading c.args.event.now e c.step.result left) c.self.view_is c.step.ensures in
    on_some (IsUncutHandedOn c.step.result) (λ (o : KeptOutcome). StepsAsMachine c.args.reading c.args.event.now before o left)
    (λ o handed. handed_steps c.args.reading before left c.args.event.now c.step.result o step handed.1) c.hand_unserved_on.result c.hand_unserved_on.ensures

pub returns-in_default-clause-same : goal.returns-in_default-clause-same
returns-in_default-clause-same g c =
    let before = c.args.self.now in
    let left = c.step.new.entity in
    let step : Step c.args.reading c.args.event.now before c.step.result left =
    subst (λ (e : EntityData). Step c.args.reading c.args.event.now e c.step.result left) c.self.view_is c.step.ensures in
    on_some (IsUncutHandedOn c.step.result) (λ (o : KeptOutcome). left ≡ before)
    (λ o handed. still_alone c.args.reading c.args.event.now c.step.result before left c.items-waiting.ensures.sound c.requires.still c.requires.reads step handed.0
    (λ reply is. absurd (c.in_default.not-Done reply is))) c.hand_unserved_on.result c.hand_unserved_on.ensures

-- a reply
pub returns-clause-step : goal.returns-clause-step
returns-clause-step g c =
    let before = c.args.self.now in
    let left = c.step.new.entity in
    let step : Step c.args.reading c.args.event.now before c.step.result left =
    subst (λ (e : EntityData). Step c.args.reading c.args.event.now e c.step.result left) c.self.view_is c.step.ensures in
    subst (λ (o : KeptOutcome). StepsAsMachine c.args.reading c.args.event.now before o left) (sym c.of_reply.ensures)
    (subst (λ (o : Outcome). Step c.args.reading c.args.event.now before o left) c.in-Done.is step)

pub returns-clause-same : goal.returns-clause-same
returns-clause-same g c =
    let before = c.args.self.now in
    let left = c.step.new.entity in
    let step : Step c.args.reading c.args.event.now before c.step.result left =
    subst (λ (e : EntityData). Step c.args.reading c.args.event.now e c.step.result left) c.self.view_is c.step.ensures in
    let kept : length before.items ≤ length left.items = omega (arith, c.if-items-waiting.false, c.items-waiting.ensures.items, c.items.ensures.items) in
    still_alone c.args.reading c.args.event.now (Done c.in-Done.reply) before left c.items-waiting.ensures.sound c.requires.still c.requires.reads
    (subst (λ (o : Outcome). Step c.args.reading c.args.event.now before o left) c.in-Done.is step) refl (λ reply is. kept)
