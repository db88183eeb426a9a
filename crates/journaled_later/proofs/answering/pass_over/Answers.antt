use Rattle.cse_machine.specs.declared.event.Event.TheVariants.{Tick}
use Rattle.journal_events.specs.declared.event.KeptEvent.TheVariants as events
use Rattle.journaled_later.proofs.AnswerLemmas.{over_taken}
use Rattle.journaled_later.proofs.RecordLemmas.{inner_recorded}
use Rattle.journaled_later.proofs.RunLemmas.{kept_home}
use Rattle.journaled_later.proofs.answering.pass_over.Goals as goal

pub returns-clause-taken : goal.returns-clause-taken
returns-clause-taken g c = λ moment request standing.
    over_taken c.args.reading moment request c.args.entity.now c.record_inside.new.entity standing c.in_ok-ticked.ticked c.in_ok-ticked.ensures.step

pub returns-clause-records : goal.returns-clause-records
returns-clause-records g c = λ standing.
    inner_recorded c.args.entity.now c.record_inside.new.entity standing c.args.lines.now.items c.record_inside.new.lines.items
    (kept_home c.args.reading (events.OfMachine Tick) c.in_ok-ticked.ticked c.args.entity.now c.record_inside.new.entity c.in_ok-ticked.ensures.step) c.in_ok-ticked.ensures.records
