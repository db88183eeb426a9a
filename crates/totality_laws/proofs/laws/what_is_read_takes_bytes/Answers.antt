use Rattle.totality_laws.proofs.EndLemmas.{line_takes, message_takes}
use Rattle.totality_laws.proofs.laws.what_is_read_takes_bytes.Goals as goal

pub returns-clause-messages : goal.returns-clause-messages
returns-clause-messages c = message_takes

pub returns-clause-lines : goal.returns-clause-lines
returns-clause-lines c = line_takes
