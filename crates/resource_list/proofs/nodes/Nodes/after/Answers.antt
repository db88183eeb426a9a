use Rattle.std.proofs.Common.{subst, sym}
use Rattle.tree_model.specs.Tree.{AreAscending}
use Rattle.tree_model.proofs.GrowthLemmas.{ascending_from_tree}
use Rattle.resource_list.proofs.nodes.Nodes.after.Goals as goal

pub found_after-requires : goal.found_after-requires
found_after-requires c = subst AreAscending (sym c.deref.ensures.value) (ascending_from_tree c.self.inside.resources.items c.self.invariant)
