use Rattle.std.proofs.Common.{ap, ◌∙◌}
use Rattle.tree_model.specs.Tree.{is_tree, has_counter}
use Rattle.tree_model.proofs.GrowthLemmas.{ascending_from_tree}
use Rattle.tree_model.proofs.RecountLemmas.{tree_recounted}
use Rattle.resource_list.proofs.nodes.Nodes.recount.Goals as goal

pub recount_in-requires-clause-order : goal.recount_in-requires-clause-order
recount_in-requires-clause-order c = ascending_from_tree c.self.inside.resources.items c.self.invariant

pub invariant_of-self : goal.invariant_of-self
invariant_of-self c =
    ap is_tree c.recount_in.ensures
    ∙ tree_recounted c.self.inside.resources.items c.args.number c.args.left c.self.invariant (ap (has_counter c.args.number) c.self.view_is ∙ c.requires.there)
