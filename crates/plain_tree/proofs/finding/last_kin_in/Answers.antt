use Rattle.std.proofs.Common.{◌∙◌}
use Rattle.tree_model.specs.Tree.{is_kin}
use Rattle.tree_model.proofs.FoundLemmas.{last_from_the_end}
use Rattle.plain_tree.proofs.finding.last_kin_in.Goals as goal

pub returns : goal.returns
returns c = c.first_from_the_end.ensures ∙ last_from_the_end (is_kin c.args.ty c.args.parent) c.args.resources.now
