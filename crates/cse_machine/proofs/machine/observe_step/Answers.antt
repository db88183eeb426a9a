use Rattle.std.proofs.Common.{refl, subst}
use Rattle.entity_model.specs.Entity.{EntityData}
use Rattle.cse_machine.specs.Step.{Occurs}
use Rattle.cse_machine.proofs.OutcomeLemmas.{occurs_step, unswept_step}
use Rattle.cse_machine.proofs.machine.observe_step.Goals as goal

-- the expiry ran out of memory
pub returns-in-Err-clause-step : goal.returns-in-Err-clause-step
returns-in-Err-clause-step g c =
    unswept_step c.args.reading c.args.event.now c.args.entity.now _
    (record { none = refl; same = c.in-Err.ensures.err; due = c.in-Err.ensures.memory })

-- the event occurs on what is left
pub returns-in-Ok-clause-step : goal.returns-in-Ok-clause-step
returns-in-Ok-clause-step g c =
    occurs_step c.args.reading c.args.event.now c.args.entity.now _ _
    (subst (λ (e : EntityData). Occurs c.args.event.now e c.observe_event.result.outcome c.observe_event.new.entity) c.in-Ok.ensures.ok c.observe_event.ensures.step)
