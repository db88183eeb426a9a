use Rattle.std.proofs.Common.{ap, ◌∙◌, arith}
use Rattle.entity_model.specs.Entity.{EntityData, event_moment}
use Rattle.journaled_later.proofs.recorder.moment_of.Goals as goal

pub returns-clause-value : goal.returns-clause-value
returns-clause-value g c = c.event_moment.ensures ∙ ap (λ (e : EntityData). event_moment e.last c.args.reading) c.entity.view_is

pub returns-clause-moment : goal.returns-clause-moment
returns-clause-moment g c = omega (arith, c.entity.invariant.last, c.event_moment.ensures)
