use Rattle.std.proofs.Common.{◌≡◌, List, [], ◌∷◌, ◌++◌, Some, true, sym, ap, ◌∙◌, subst, arith}
use Rattle.resource_model.specs.Resource.{ResourceData}
use Rattle.tree_model.specs.Tree.{has_state, instance_size, DoAscend}
use Rattle.tree_model.proofs.GrowthLemmas.{tree_from_well_formed}
use Rattle.container_limits.specs.Limits.{limits_of}
use Rattle.create_delete.specs.Changing.{nodes_joined}
use Rattle.create_delete.specs.Joining.{JoinsAt}
use Rattle.create_delete.proofs.JoiningLemmas.{filling_after, filling_state, joining_fits}
use Rattle.create_delete.proofs.PushingLemmas.{evicted_ascend}
use Rattle.create_delete.proofs.joining.put_new_resource.Goals as goal

pub put_last-requires : goal.put_last-requires
put_last-requires g c = joining_fits c.args.moment (g.T.Tree.nodes c.args.tree.now) c.args.resource c.args.update c.requires

pub restamp-requires-clause-there : goal.restamp-requires-clause-there
restamp-requires-clause-there g c =
    let joins : JoinsAt c.args.moment (g.T.Tree.nodes c.args.tree.now) c.args.resource (Some c.in-Some.update) = subst (λ f. JoinsAt c.args.moment (g.T.Tree.nodes c.args.tree.now) c.args.resource f) c.in-Some.is c.requires in
    let e = joins.entity in
    subst (λ (nodes : List ResourceData). has_state c.in-Some.update.container nodes ≡ true) (sym (c.in_ok-put_last.ensures.ok ∙ ap (λ (nodes : List ResourceData). nodes ++ c.args.resource ∷ []) (sym joins.stand)))
    (filling_state e c.args.resource c.in-Some.update joins.sound joins.may)

pub restamp-requires-clause-lt : goal.restamp-requires-clause-lt
restamp-requires-clause-lt g c = omega (arith, c.requires.sound.last, c.requires.last)

pub restamp-requires-clause-st : goal.restamp-requires-clause-st
restamp-requires-clause-st g c =
    let joins : JoinsAt c.args.moment (g.T.Tree.nodes c.args.tree.now) c.args.resource (Some c.in-Some.update) = subst (λ f. JoinsAt c.args.moment (g.T.Tree.nodes c.args.tree.now) c.args.resource f) c.in-Some.is c.requires in
    joins.may.joins.small

pub remove_all-requires : goal.remove_all-requires
remove_all-requires g c =
    let joins : JoinsAt c.args.moment (g.T.Tree.nodes c.args.tree.now) c.args.resource (Some c.in-Some.update) = subst (λ f. JoinsAt c.args.moment (g.T.Tree.nodes c.args.tree.now) c.args.resource f) c.in-Some.is c.requires in
    let e = joins.entity in
    subst DoAscend (sym (c.entries.ensures ∙ joins.may.gone))
    (evicted_ascend (limits_of joins.may.parent) (Some (instance_size c.args.resource)) e.last joins.may.parent.number e.nodes (tree_from_well_formed e.nodes joins.sound.tree))

pub returns-in-Some-clause-ok : goal.returns-in-Some-clause-ok
returns-in-Some-clause-ok g c =
    filling_after c.args.moment (g.T.Tree.nodes c.args.tree.now) c.args.resource c.in-Some.update _ _ _ _ c.in_ok-put_last.ensures.ok c.restamp.ensures c.entries.ensures c.remove_all.ensures
    ∙ ap (nodes_joined c.args.moment (g.T.Tree.nodes c.args.tree.now) c.args.resource) (sym c.in-Some.is)

pub returns-in-None-clause-ok : goal.returns-in-None-clause-ok
returns-in-None-clause-ok g c =
    c.in_ok-put_last.ensures.ok ∙ ap (nodes_joined c.args.moment (g.T.Tree.nodes c.args.tree.now) c.args.resource) (sym c.in-None.is)
