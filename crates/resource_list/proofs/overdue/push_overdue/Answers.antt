use Rattle.std.proofs.Common.{sym}
use Rattle.tree_model.proofs.OrderLemmas.{at_place, tree_ascends}
use Rattle.resource_list.proofs.overdue.push_overdue.Goals as goal

pub push_if_overdue-requires-clause-stands : goal.push_if_overdue-requires-clause-stands
push_if_overdue-requires-clause-stands c = at_place c.args.resources.now c.args.k c.in-Some.resource.now (tree_ascends c.args.resources.now c.requires) (sym c.in-Some.ensures)
