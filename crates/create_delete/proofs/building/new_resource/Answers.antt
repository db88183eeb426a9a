use Rattle.std.proofs.Common.{◌≡◌, ◌∙◌, ap}
use Rattle.entity_model.specs.Entity.{EntityData}
use Rattle.request_rules.specs.Creation.{Creation, new_rows, owner_for}
use Rattle.request_rules.specs.Judged.{creation_for}
use Rattle.create_delete.proofs.RowLemmas.{created_in_turn, made_of}
use Rattle.create_delete.proofs.building.new_resource.Goals as goal

pub returns : goal.returns
returns g c =
    let made : Creation = creation_for c.args.entity.now c.args.originator.now c.args.create in
    let attrs : c.link_all.new.attrs ≡ new_rows made =
    created_in_turn made c.in_ok-attrs.attrs c.add_besides.new.attrs c.link_all.new.attrs c.in_ok-attrs.ensures c.in_ok-add_besides.ensures
    (c.in_ok-link_all.ensures made.e made.named c.requires.parts.links c.requires.allowed.live) in
    c.of.ensures
    ∙ made_of made c.entity.inside.next c.args.create.name c.number.result c.in_ok-owner.owner c.entity.inside.last c.args.create.et c.link_all.new.attrs
    (ap (λ (e : EntityData). e.next) c.entity.view_is)
    c.requires.parts.name
    c.number.ensures.value
    (c.in_ok-owner.ensures.value ∙ ap (λ (e : EntityData). owner_for c.args.originator.now c.args.create.ty e.next) c.entity.view_is)
    (ap (λ (e : EntityData). e.last) c.entity.view_is)
    c.requires.parts.expiry
    attrs
