use Rattle.service_laws.proofs.OneWayLemmas.{none_polled, rules_poll_none, served_alike}
use Rattle.service_laws.proofs.OriginatorLemmas.{heard_tells, rules_ask}
use Rattle.service_laws.proofs.laws.equal_sights_are_served_alike.Goals as goal

pub returns-clause-alike : goal.returns-clause-alike
returns-clause-alike c = served_alike

pub returns-clause-unpolled : goal.returns-clause-unpolled
returns-clause-unpolled c = none_polled

pub returns-clause-rules : goal.returns-clause-rules
returns-clause-rules c = rules_poll_none

pub returns-clause-heard : goal.returns-clause-heard
returns-clause-heard c = heard_tells

pub returns-clause-asks : goal.returns-clause-asks
returns-clause-asks c = rules_ask
