use Rattle.std.proofs.Common.{◌≡◌, sym, ap, subst, ◌∙◌}
use Rattle.primitive_json.specs.declared.request.RequestParts.{RequestParts}
use Rattle.entity_model.specs.Places.{ComesTo}
use Rattle.group_fanout.proofs.OperationLemmas.{create_to, delete_to, notify_to, update_to}
use Rattle.group_fanout.proofs.operating.operate.Goals as goal

-- a Create gives what it is to give
pub returns-in-Create-clause-gives : goal.returns-in-Create-clause-gives
returns-in-Create-clause-gives g c =
    let is =
    create_to c.args.entity.now c.args.request.now c.args.originator.now c.args.number c.requires.claimed
    (ap (λ (r : RequestParts). r.op) (sym c.parts.ensures.same) ∙ c.in-Create.is) in
    subst (ComesTo c.create.result c.create.new.entity) (sym is) c.create.ensures.gives

-- an Update gives what it is to give
pub returns-in-Update-clause-gives : goal.returns-in-Update-clause-gives
returns-in-Update-clause-gives g c =
    let is =
    update_to c.args.entity.now c.args.request.now c.args.originator.now c.args.number c.requires.claimed
    (ap (λ (r : RequestParts). r.op) (sym c.parts.ensures.same) ∙ c.in-Update.is) in
    subst (ComesTo c.update.result c.update.new.entity) (sym is) c.update.ensures.gives

-- a Delete gives what it is to give
pub returns-in-Delete-clause-gives : goal.returns-in-Delete-clause-gives
returns-in-Delete-clause-gives g c =
    let is =
    delete_to c.args.entity.now c.args.request.now c.args.originator.now c.args.number c.requires.claimed
    (ap (λ (r : RequestParts). r.op) (sym c.parts.ensures.same) ∙ c.in-Delete.is) in
    subst (ComesTo c.delete.result c.delete.new.entity) (sym is) c.delete.ensures.gives

-- a Notify gives what it is to give
pub returns-in-Notify-clause-gives : goal.returns-in-Notify-clause-gives
returns-in-Notify-clause-gives g c =
    let is =
    notify_to c.args.entity.now c.args.request.now c.args.originator.now c.args.number c.requires.claimed
    (ap (λ (r : RequestParts). r.op) (sym c.parts.ensures.same) ∙ c.in-Notify.is) in
    subst (ComesTo c.notify.result c.notify.new.entity) (sym is) c.notify.ensures.gives
