use Rattle.std.proofs.Common.{ap, ◌∙◌}
use Rattle.tree_model.specs.Tree.{are_quiet, is_numbered_in}
use Rattle.tree_model.proofs.QuietLemmas.{quiet-without}
use Rattle.plain_tree.proofs.list_tree.ListTreeTree.remove_all.Goals as goal

pub invariant_of-self : goal.invariant_of-self
invariant_of-self c =
    ap (are_quiet c.self.inside.quiet) c.remove_all.ensures.value
    ∙ quiet-without (is_numbered_in c.args.numbers.now) c.self.inside.nodes c.self.inside.quiet c.remove_all.ensures.tree c.self.invariant
