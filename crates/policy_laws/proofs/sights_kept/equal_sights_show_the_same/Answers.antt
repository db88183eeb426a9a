use Rattle.policy_laws.proofs.EqualLemmas.{has-same, shows-same}
use Rattle.policy_laws.proofs.sights_kept.equal_sights_show_the_same.Goals as goal

pub returns-clause-numbers : goal.returns-clause-numbers
returns-clause-numbers c = has-same

pub returns-clause-shown : goal.returns-clause-shown
returns-clause-shown c = shows-same
