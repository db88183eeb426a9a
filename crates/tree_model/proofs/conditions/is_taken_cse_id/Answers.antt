use Rattle.std.proofs.Common.{sym}
use Rattle.resource_model.specs.Resource.{cse_id}
use Rattle.tree_model.proofs.FoundLemmas.{no_text_found}
use Rattle.tree_model.proofs.conditions.is_taken_cse_id.Goals as goal

pub returns-in-None : goal.returns-in-None
returns-in-None g c = rw c.in-None.is (sym (no_text_found cse_id (g.T.Tree.nodes c.args.tree.now)))
