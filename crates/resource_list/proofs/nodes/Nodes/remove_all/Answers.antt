use Rattle.std.proofs.Common.{ap, ◌∙◌}
use Rattle.tree_model.specs.Tree.{is_numbered_in, is_tree}
use Rattle.tree_model.proofs.KeptLemmas.{is_tree-without}
use Rattle.resource_list.proofs.nodes.Nodes.remove_all.Goals as goal

pub invariant_of-self : goal.invariant_of-self
invariant_of-self c = ap is_tree c.sweep_out_all.ensures ∙ is_tree-without (is_numbered_in c.args.numbers.now) c.self.inside.resources.items c.self.invariant
