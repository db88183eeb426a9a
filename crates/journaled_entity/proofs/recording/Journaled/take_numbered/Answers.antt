use Rattle.std.proofs.Common.{ap, ◌∙◌}
use Rattle.entity_model.specs.Entity.{EntityData}
use Rattle.journal_events.specs.Steps.{is_next, without_sent}
use Rattle.journaled_entity.proofs.recording.Journaled.take_numbered.Goals as goal

pub returns-clause-found : goal.returns-clause-found
returns-clause-found g c = c.take_numbered.ensures.found ∙ ap (λ (e : EntityData). is_next c.args.number e) c.self.view_is

pub returns-clause-rest : goal.returns-clause-rest
returns-clause-rest g c = c.take_numbered.ensures.rest ∙ ap (λ (e : EntityData). without_sent c.args.number e) c.self.view_is
