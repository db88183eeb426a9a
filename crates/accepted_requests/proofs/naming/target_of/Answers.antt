use Rattle.accepted_requests.proofs.HereLemmas.{is_elsewhere, is_of_this, names_none, names_number}
use Rattle.accepted_requests.proofs.naming.target_of.Goals as goal

pub returns-in-Some-clause-here : goal.returns-in-Some-clause-here
returns-in-Some-clause-here c = λ ok. is_of_this c.args.home.now c.args.text.now _ c.in-Some.ensures ok

pub returns-in-Some-clause-number : goal.returns-in-Some-clause-number
returns-in-Some-clause-number c = λ ok. names_number c.args.home.now c.args.text.now _ _ c.in-Some.ensures c.number_named.ensures ok

pub returns-in-None-clause-here : goal.returns-in-None-clause-here
returns-in-None-clause-here c = λ ok. is_elsewhere c.args.home.now c.args.text.now c.in-None.ensures ok

pub returns-in-None-clause-number : goal.returns-in-None-clause-number
returns-in-None-clause-number c = λ ok. names_none c.args.home.now c.args.text.now c.in-None.ensures ok
