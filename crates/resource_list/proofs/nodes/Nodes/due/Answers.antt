use Rattle.std.proofs.Common.{subst, sym}
use Rattle.tree_model.specs.Tree.{AreAscending}
use Rattle.tree_model.proofs.GrowthLemmas.{ascending_from_tree}
use Rattle.resource_list.proofs.nodes.Nodes.due.Goals as goal

pub due_in-requires : goal.due_in-requires
due_in-requires c = subst AreAscending (sym c.deref.ensures.value) (ascending_from_tree c.self.inside.resources.items c.self.invariant)
