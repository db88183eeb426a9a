use Rattle.std.proofs.Common.{ap, sym, ◌∙◌}
use Rattle.tree_model.specs.Tree.{are_quiet, is_tree, overdue_numbers}
use Rattle.tree_model.proofs.OverdueLemmas.{none_overdue}
use Rattle.resource_list.proofs.nodes.Nodes.overdue.Goals as goal

pub overdue_in-requires : goal.overdue_in-requires
overdue_in-requires c = ap is_tree c.deref.ensures.value ∙ c.self.invariant

pub returns-then-moment-quiet-clause-value : goal.returns-then-moment-quiet-clause-value
returns-then-moment-quiet-clause-value c =
    c.new.ensures.items
    ∙ sym (none_overdue c.self.inside.resources.items c.args.moment c.self.invariant c.args.quiet (ap (are_quiet c.args.quiet) c.self.view_is ∙ c.requires) c.if-moment-quiet.true)
    ∙ ap (overdue_numbers c.args.moment) c.self.view_is
