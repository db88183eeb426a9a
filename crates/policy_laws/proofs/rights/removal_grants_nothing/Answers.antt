use Rattle.policy_laws.proofs.RemovalLemmas.{grants_before, relinks_before, fan_grants_before}
use Rattle.policy_laws.proofs.rights.removal_grants_nothing.Goals as goal

pub returns-clause-rights : goal.returns-clause-rights
returns-clause-rights c = grants_before

pub returns-clause-links : goal.returns-clause-links
returns-clause-links c = relinks_before

pub returns-clause-fans : goal.returns-clause-fans
returns-clause-fans c = fan_grants_before
