use Rattle.journal_lines.proofs.HeaderLemmas.{headers_back, others_told}
use Rattle.journal_lines.proofs.laws.headers_are_read_back.Goals as goal

pub returns-clause-back : goal.returns-clause-back
returns-clause-back c = headers_back

pub returns-clause-other : goal.returns-clause-other
returns-clause-other c = others_told
