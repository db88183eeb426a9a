use Rattle.std.proofs.Common.{List, sym, subst}
use Rattle.std.specs.Result.{is_ok}
use Rattle.resource_model.specs.Resource.{ResourceData}
use Rattle.tree_model.specs.Tree.{AreAscending}
use Rattle.tree_model.proofs.GrowthLemmas.{IsNext, next_fits, ascending_from_tree}
use Rattle.tree_model.proofs.KeptLemmas.{is_tree-push}
use Rattle.resource_list.proofs.nodes.Nodes.push.Goals as goal

pub invariant_of-self-2 : goal.invariant_of-self-2
invariant_of-self-2 c =
    is_tree-push (is_ok c.push.result) c.self.inside.resources.items c.push.new.self.items c.args.resource c.push.ensures.items c.self.invariant
    (subst (λ (nodes : List ResourceData). IsNext nodes c.args.resource) (sym c.self.view_is) (next_fits c.args.self.now c.args.resource c.requires))

pub place_of-parent-requires : goal.place_of-parent-requires
place_of-parent-requires c = subst AreAscending (sym c.deref.ensures.value) (ascending_from_tree c.self.inside.resources.items c.self.invariant)
