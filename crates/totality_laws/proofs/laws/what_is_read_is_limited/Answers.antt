use Rattle.totality_laws.proofs.EndLemmas.{few_lines, few_messages}
use Rattle.totality_laws.proofs.laws.what_is_read_is_limited.Goals as goal

pub returns-clause-messages : goal.returns-clause-messages
returns-clause-messages c = few_messages

pub returns-clause-lines : goal.returns-clause-lines
returns-clause-lines c = few_lines
