use Rattle.policy_laws.proofs.ReplaceLemmas.{replace-others, replace-same, replace-seen}
use Rattle.policy_laws.proofs.sights_kept.equal_sights_stay_equal_under_a_replacement.Goals as goal

pub returns-clause-others : goal.returns-clause-others
returns-clause-others c = replace-others

pub returns-clause-changed : goal.returns-clause-changed
returns-clause-changed c = replace-same

pub returns-clause-unseen : goal.returns-clause-unseen
returns-clause-unseen c = replace-seen
