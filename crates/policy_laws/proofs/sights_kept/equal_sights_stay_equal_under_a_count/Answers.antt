use Rattle.policy_laws.proofs.RecountLemmas.{counted-same, counted-seen}
use Rattle.policy_laws.proofs.sights_kept.equal_sights_stay_equal_under_a_count.Goals as goal

pub returns-clause-seen : goal.returns-clause-seen
returns-clause-seen c = λ home nodes o left well counts. counted-seen left home o nodes well counts

pub returns-clause-same : goal.returns-clause-same
returns-clause-same c = counted-same
