use Rattle.std.proofs.Common.{ap, ◌∙◌}
use Rattle.tree_model.specs.Tree.{are_quiet, has_state}
use Rattle.tree_model.proofs.StampLemmas.{quiet-restamped}
use Rattle.plain_tree.proofs.list_tree.ListTreeTree.restamp.Goals as goal

pub invariant_of-self : goal.invariant_of-self
invariant_of-self c =
    ap (are_quiet c.self.inside.quiet) c.restamp.ensures.value
    ∙ quiet-restamped c.self.inside.nodes c.args.number c.args.lt c.args.st c.self.inside.quiet c.restamp.ensures.tree (ap (has_state c.args.number) c.self.view_is ∙ c.requires.there) c.self.invariant
