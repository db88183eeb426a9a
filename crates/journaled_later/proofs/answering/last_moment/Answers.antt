use Rattle.std.proofs.Common.{ap, subst, ◌∙◌, arith}
use Rattle.entity_model.specs.Entity.{EntityData, event_moment}
use Rattle.entity_model.specs.Sound.{IsSoundEntity}
use Rattle.journaled_later.proofs.answering.last_moment.Goals as goal

pub returns-clause-value : goal.returns-clause-value
returns-clause-value g c = c.event_moment.ensures ∙ ap (λ (e : EntityData). event_moment e.last 0) c.entity.view_is

pub returns-clause-small : goal.returns-clause-small
returns-clause-small g c = omega (arith, c.entity.invariant.last, c.event_moment.ensures)

pub returns-clause-sound : goal.returns-clause-sound
returns-clause-sound g c = subst IsSoundEntity c.entity.view_is c.entity.invariant
