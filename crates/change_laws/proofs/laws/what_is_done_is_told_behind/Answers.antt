use Rattle.change_laws.proofs.BehindLemmas.{reply_behind, told_behind}
use Rattle.change_laws.proofs.laws.what_is_done_is_told_behind.Goals as goal

pub returns-clause-reply : goal.returns-clause-reply
returns-clause-reply c = reply_behind

pub returns-clause-after : goal.returns-clause-after
returns-clause-after c = told_behind
