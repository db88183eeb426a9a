use Rattle.std.proofs.Common.{sym, subst}
use Rattle.journal_events.specs.Steps.{KeptEntityStep}
use Rattle.journal_events.specs.declared.event.KeptOutcome.{KeptOutcome}
use Rattle.journaled_later.proofs.inside.record_inside.Goals as goal

pub returns-clause-step : goal.returns-clause-step
returns-clause-step g c =
    subst (λ (o : KeptOutcome). KeptEntityStep c.args.reading c.args.event.now c.args.entity.now o c.record.new.self) (sym c.into_outcome.ensures) c.in_ok-came.ensures.step

pub returns-clause-records : goal.returns-clause-records
returns-clause-records g c = c.in_ok-came.ensures.records
