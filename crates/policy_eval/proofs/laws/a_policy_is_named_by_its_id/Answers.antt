use Rattle.policy_eval.proofs.NameLemmas.{policy_number-id_of, policy_named-id_of}
use Rattle.policy_eval.proofs.laws.a_policy_is_named_by_its_id.Goals as goal

pub returns-clause-number : goal.returns-clause-number
returns-clause-number c = policy_number-id_of

pub returns-clause-named : goal.returns-clause-named
returns-clause-named c = policy_named-id_of
