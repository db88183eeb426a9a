use Rattle.cse_machine.specs.declared.event.Event.TheVariants.{Tick}
use Rattle.journal_events.specs.Came.{machine_outcome}
use Rattle.journaled_entity.proofs.HandingLemmas.{machine_steps}
use Rattle.journaled_entity.proofs.SendingLemmas.{only_expires}
use Rattle.journaled_entity.proofs.recording.Journaled.pass_over.Goals as goal

pub returns-clause-step : goal.returns-clause-step
returns-clause-step g c =
    let left = c.record_expiry.new.self in
    let expired = c.in_ok-expired.expired in
    only_expires c.args.reading (machine_outcome expired) c.args.self.now left (machine_steps c.args.reading c.args.self.now left Tick expired c.in_ok-expired.ensures.step)
