use Rattle.policy_laws.proofs.AppendLemmas.{append-same, seen_list_before}
use Rattle.policy_laws.proofs.sights_kept.equal_sights_stay_equal_under_an_append.Goals as goal

pub returns-clause-others : goal.returns-clause-others
returns-clause-others c = λ home nodes o r well unlinked. seen_list_before nodes r well unlinked home o

pub returns-clause-appended : goal.returns-clause-appended
returns-clause-appended c = append-same
