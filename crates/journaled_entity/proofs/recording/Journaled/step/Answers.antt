use Rattle.std.proofs.Common.{ap, subst, ◌∙◌}
use Rattle.entity_model.specs.Entity.{EntityData, swept}
use Rattle.cse_machine.specs.Step.{Step, took}
use Rattle.journaled_entity.proofs.recording.Journaled.step.Goals as goal

pub returns-clause-step : goal.returns-clause-step
returns-clause-step g c =
    subst (λ (e : EntityData). Step c.args.reading c.args.event.now e c.observe_step.result.outcome c.observe_step.new.entity) c.self.view_is c.observe_step.ensures.step

pub returns-clause-took : goal.returns-clause-took
returns-clause-took g c = c.observe_step.ensures.took ∙ ap (λ (e : EntityData). took (swept c.args.reading e) c.observe_step.result.outcome c.observe_step.new.entity) c.self.view_is
