use Rattle.policy_laws.proofs.TwiceLemmas.{without-same, live-same}
use Rattle.policy_laws.proofs.sights_kept.equal_sights_stay_equal_under_a_removal.Goals as goal

pub returns-clause-removed : goal.returns-clause-removed
returns-clause-removed c = without-same

pub returns-clause-live : goal.returns-clause-live
returns-clause-live c = live-same
