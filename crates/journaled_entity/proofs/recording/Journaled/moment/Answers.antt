use Rattle.std.proofs.Common.{ap, ◌∙◌}
use Rattle.entity_model.specs.Entity.{EntityData, event_moment}
use Rattle.journaled_entity.proofs.recording.Journaled.moment.Goals as goal

pub returns-clause-value : goal.returns-clause-value
returns-clause-value g c = c.moment_of.ensures.value ∙ ap (λ (e : EntityData). event_moment e.last c.args.reading) c.self.view_is
