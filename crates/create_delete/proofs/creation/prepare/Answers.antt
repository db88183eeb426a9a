use Rattle.std.proofs.Common.{◌≡◌, true, Option, ap, sym, ◌∙◌, subst}
use Rattle.resource_model.specs.Resource.{ResourceData}
use Rattle.tree_model.specs.Tree.{has}
use Rattle.tree_model.proofs.TreeLemmas.{at_has}
use Rattle.request_rules.specs.Creation.{Creation, new_resource}
use Rattle.request_rules.specs.Judged.{creation_for}
use Rattle.create_delete.specs.Changing.{after_joining, container_update_of}
use Rattle.create_delete.specs.Joining.{MayJoin}
use Rattle.create_delete.specs.declared.joining.ContainerUpdate.{ContainerUpdate}
use Rattle.create_delete.proofs.CreatedLemmas.{may_join}
use Rattle.create_delete.proofs.UnsentLemmas.{unsent_made}
use Rattle.create_delete.proofs.creation.prepare.Goals as goal

-- its parent is there
pub created_content-requires : goal.created_content-requires
created_content-requires g c =
    subst (λ (r : ResourceData). has r.parent c.args.entity.now.nodes ≡ true) (sym c.in_ok-resource.ensures)
    (at_has c.args.create.parent.now.number c.args.entity.now.nodes c.args.create.parent.now c.requires.allowed.parent)

-- it may join as it is defined
pub returns-clause-may : goal.returns-clause-may
returns-clause-may g c =
    let made : Creation = creation_for c.args.entity.now c.args.originator.now c.args.create in
    let joins : MayJoin made.e (new_resource made) (container_update_of made) = may_join made c.requires.sound c.requires.originator c.requires.allowed in
    subst (λ (r : ResourceData). MayJoin made.e r c.in_ok-update.update) (sym c.in_ok-resource.ensures)
    (subst (λ (f : Option ContainerUpdate). MayJoin made.e (new_resource made) f) (sym (c.in_ok-update.ensures c.args.originator.now)) joins)

-- and no copy follows, unless its container lists a CSE, or it does
pub returns-clause-unsent : goal.returns-clause-unsent
returns-clause-unsent g c none =
    let made : Creation = creation_for c.args.entity.now c.args.originator.now c.args.create in
    let joins : MayJoin made.e (new_resource made) (container_update_of made) = may_join made c.requires.sound c.requires.originator c.requires.allowed in
    unsent_made c.args.entity.now c.args.create.parent.now (new_resource made) c.in_ok-resource.resource (container_update_of made) c.in_ok-update.update c.copies_may_follow-is_copied.result c.in_ok-resource.ensures (c.in_ok-update.ensures c.args.originator.now)
    c.requires.sound c.requires.allowed.parent joins c.copies_may_follow-is_copied.ensures none

pub returns-clause-after : goal.returns-clause-after
returns-clause-after g c =
    let made : Creation = creation_for c.args.entity.now c.args.originator.now c.args.create in
    ap (λ (r : ResourceData). after_joining made.e r c.in_ok-update.update) c.in_ok-resource.ensures
    ∙ ap (after_joining made.e (new_resource made)) (c.in_ok-update.ensures c.args.originator.now)
