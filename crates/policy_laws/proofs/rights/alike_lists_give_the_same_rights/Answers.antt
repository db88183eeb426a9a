use Rattle.policy_laws.proofs.AlikeLemmas.{grants-alike, relinks-alike, fan_grants-alike}
use Rattle.policy_laws.proofs.rights.alike_lists_give_the_same_rights.Goals as goal

pub returns-clause-rights : goal.returns-clause-rights
returns-clause-rights c = grants-alike

pub returns-clause-links : goal.returns-clause-links
returns-clause-links c = relinks-alike

pub returns-clause-fans : goal.returns-clause-fans
returns-clause-fans c = fan_grants-alike
