use Rattle.std.proofs.Common.{length, ap, subst, ◌∙◌}
use Rattle.entity_model.specs.Entity.{EntityData}
use Rattle.entity_model.specs.Sound.{IsSoundEntity}
use Rattle.journaled_entity.proofs.recording.Journaled.items.Goals as goal

pub returns-clause-items : goal.returns-clause-items
returns-clause-items g c = c.items_of.ensures.items ∙ ap (λ (e : EntityData). length e.items) c.self.view_is

pub returns-clause-sound : goal.returns-clause-sound
returns-clause-sound g c = subst IsSoundEntity c.self.view_is c.items_of.ensures.sound
