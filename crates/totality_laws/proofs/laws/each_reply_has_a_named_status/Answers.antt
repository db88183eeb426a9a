use Rattle.totality_laws.proofs.LaterLemmas.{later_steps_named}
use Rattle.totality_laws.proofs.StatusLemmas.{members_named, steps_named}
use Rattle.totality_laws.proofs.laws.each_reply_has_a_named_status.Goals as goal

pub returns-clause-steps : goal.returns-clause-steps
returns-clause-steps c = steps_named

pub returns-clause-members : goal.returns-clause-members
returns-clause-members c = members_named

pub returns-clause-later : goal.returns-clause-later
returns-clause-later c = later_steps_named
