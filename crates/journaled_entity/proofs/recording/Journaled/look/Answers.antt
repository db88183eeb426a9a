use Rattle.std.proofs.Common.{◌≡◌, true, sym, ◌∙◌, subst}
use Rattle.std.specs.Prelude.{IfOk}
use Rattle.entity_model.specs.Entity.{EntityData}
use Rattle.journal_events.specs.Steps.{next_item}
use Rattle.journaled_entity.specs.Changes.{is_ticked}
use Rattle.journaled_entity.proofs.SendingLemmas.{looks_starved, looks_told}
use Rattle.journaled_entity.proofs.recording.Journaled.look.Goals as goal

-- memory ran out for the expiry
pub returns-then-not-is_ticked : goal.returns-then-not-is_ticked
returns-then-not-is_ticked g c = λ reading before step.
    looks_starved reading c.args.ticked before c.args.self.now step c.starved.result c.starved.ensures

-- the item is told
pub returns : goal.returns
returns g c = λ reading before step.
    let is : is_ticked c.args.ticked ≡ true = sym c.is_ticked.ensures ∙ c.if-not-is_ticked.false in
    let copied = c.copied_next.result in
    looks_told reading c.args.ticked before c.args.self.now step is copied c.told.result
    (subst (λ (e : EntityData). IfOk copied (λ given. given ≡ next_item e)) c.self.view_is c.copied_next.ensures) c.told.ensures.told c.told.ensures.none
