use Rattle.std.proofs.Common.{sym, subst}
use Rattle.cse_machine.specs.Step.{Step}
use Rattle.cse_machine.specs.declared.event.Event.TheVariants.{Tick}
use Rattle.cse_machine.specs.declared.event.Outcome.{Outcome}
use Rattle.journal_events.specs.Steps.{Looks}
use Rattle.journal_events.specs.declared.event.KeptOutcome.{KeptOutcome}
use Rattle.journaled_entity.specs.Handing.{IsHandedOn}
use Rattle.journaled_entity.proofs.HandingLemmas.{looks_handed, machine_steps, on_any}
use Rattle.journaled_entity.proofs.KeepLemmas.{on_some}
use Rattle.journaled_entity.proofs.recording.Journaled.record_look.Goals as goal

pub returns-clause-step : goal.returns-clause-step
returns-clause-step g c =
    let before = c.args.self.now in
    let left = c.record_expiry.new.self in
    let told = c.look-told.result in
    let ticked = subst (λ (o : Outcome). Step c.args.reading Tick before o left) (sym c.into_machine_outcome.ensures)
    (machine_steps c.args.reading before left Tick c.in_ok-ticked.ticked c.in_ok-ticked.ensures.step) in
    on_some (IsHandedOn told) (λ (o : KeptOutcome). Looks c.args.reading before o left)
    (λ o handed. looks_handed c.args.reading before left told o (c.look-told.ensures c.args.reading before ticked) handed) c.hand_on.result c.hand_on.ensures

pub returns-clause-records : goal.returns-clause-records
returns-clause-records g c = on_any _ c.in_ok-ticked.ensures.records c.hand_on.result

pub returns-clause-sparing : goal.returns-clause-sparing
returns-clause-sparing g c = on_any _ c.in_ok-ticked.ensures.sparing c.hand_on.result
