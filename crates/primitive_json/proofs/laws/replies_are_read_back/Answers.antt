use Rattle.primitive_json.proofs.ReplyLemmas.{reply_back, reply_of_kinds}
use Rattle.primitive_json.proofs.laws.replies_are_read_back.Goals as goal

pub returns-clause-kinds : goal.returns-clause-kinds
returns-clause-kinds c = reply_of_kinds

pub returns-clause-back : goal.returns-clause-back
returns-clause-back c = reply_back
