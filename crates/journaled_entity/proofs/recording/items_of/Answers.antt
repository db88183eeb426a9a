use Rattle.std.proofs.Common.{length, ap, subst, ◌∙◌}
use Rattle.entity_model.specs.Entity.{EntityData}
use Rattle.entity_model.specs.Sound.{IsSoundEntity}
use Rattle.journaled_entity.proofs.recording.items_of.Goals as goal

pub returns-clause-items : goal.returns-clause-items
returns-clause-items g c = c.len.ensures ∙ ap (λ (e : EntityData). length e.items) c.entity.view_is

pub returns-clause-sound : goal.returns-clause-sound
returns-clause-sound g c = subst IsSoundEntity c.entity.view_is c.entity.invariant
