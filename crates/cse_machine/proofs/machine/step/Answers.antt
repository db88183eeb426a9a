use Rattle.std.proofs.Common.{refl, subst}
use Rattle.entity_model.specs.Entity.{EntityData}
use Rattle.cse_machine.specs.Step.{Occurs}
use Rattle.cse_machine.proofs.OutcomeLemmas.{occurs_step, unswept_step}
use Rattle.cse_machine.proofs.machine.step.Goals as goal

-- the expiry ran out of memory
pub returns-in-Err : goal.returns-in-Err
returns-in-Err g c =
    unswept_step c.args.reading c.args.event.now c.args.entity.now _
    (record { none = refl; same = c.in-Err.ensures.err; due = c.in-Err.ensures.memory })

-- the event occurs on what is left
pub returns : goal.returns
returns g c =
    occurs_step c.args.reading c.args.event.now c.args.entity.now _ _
    (subst (λ (e : EntityData). Occurs c.args.event.now e c.occur.result c.occur.new.entity) c.in_default.ensures.ok c.occur.ensures)
