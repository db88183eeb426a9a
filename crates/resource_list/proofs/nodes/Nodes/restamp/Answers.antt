use Rattle.std.proofs.Common.{ap, ◌∙◌}
use Rattle.tree_model.specs.Tree.{is_tree, has_state}
use Rattle.tree_model.proofs.GrowthLemmas.{ascending_from_tree}
use Rattle.tree_model.proofs.StampLemmas.{tree_restamped}
use Rattle.resource_list.proofs.nodes.Nodes.restamp.Goals as goal

pub restamp_in-requires-clause-order : goal.restamp_in-requires-clause-order
restamp_in-requires-clause-order c = ascending_from_tree c.self.inside.resources.items c.self.invariant

pub invariant_of-self : goal.invariant_of-self
invariant_of-self c =
    ap is_tree c.restamp_in.ensures
    ∙ tree_restamped c.self.inside.resources.items c.args.number c.args.lt c.args.st c.self.invariant (ap (has_state c.args.number) c.self.view_is ∙ c.requires.there)
