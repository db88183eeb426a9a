use Rattle.tree_model.proofs.QuietLemmas.{quiet_live}
use Rattle.tree_model.proofs.laws.all_is_live_while_it_is_quiet.Goals as goal

pub returns : goal.returns
returns c = λ until moment nodes tree quiet before. quiet_live nodes until moment tree quiet before
