use Rattle.copy_rights.proofs.SentLemmas.{announced_by_right, expiry_withdraws}
use Rattle.copy_rights.proofs.laws.what_is_sent_about_copies_is_announced_by_right.Goals as goal

pub returns-clause-operations : goal.returns-clause-operations
returns-clause-operations c = announced_by_right

pub returns-clause-expiries : goal.returns-clause-expiries
returns-clause-expiries c = expiry_withdraws
