use Rattle.std.proofs.Common.{ap, ◌∙◌}
use Rattle.tree_model.specs.Tree.{are_quiet, has_counter}
use Rattle.tree_model.proofs.RecountLemmas.{quiet-recounted}
use Rattle.plain_tree.proofs.list_tree.ListTreeTree.recount.Goals as goal

pub invariant_of-self : goal.invariant_of-self
invariant_of-self c =
    ap (are_quiet c.self.inside.quiet) c.recount.ensures.value
    ∙ quiet-recounted c.self.inside.nodes c.args.number c.args.left c.self.inside.quiet c.recount.ensures.tree (ap (has_counter c.args.number) c.self.view_is ∙ c.requires.there) c.self.invariant
