use Rattle.std.proofs.Common.{rules}
use Rattle.tree_model.specs.Shown.{shown_types}
use Rattle.tree_model.proofs.showing.shown_types.Goals as goal

pub returns : goal.returns
unfolding shown_types
returns c = search rules
