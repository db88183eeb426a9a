use Rattle.std.proofs.Common.{sym}
use Rattle.resource_model.specs.Resource.{ae_id}
use Rattle.tree_model.proofs.FoundLemmas.{no_text_found}
use Rattle.tree_model.proofs.conditions.is_taken_ae_id.Goals as goal

pub returns-in-None : goal.returns-in-None
returns-in-None g c = rw c.in-None.is (sym (no_text_found ae_id (g.T.Tree.nodes c.args.tree.now)))
