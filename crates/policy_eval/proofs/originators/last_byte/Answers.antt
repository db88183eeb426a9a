use Rattle.policy_eval.proofs.LastLemmas.{last_found}
use Rattle.policy_eval.proofs.originators.last_byte.Goals as goal

pub returns-in-Some : goal.returns-in-Some
returns-in-Some c = last_found c.args.text.now c.in-Some.byte.now c.in-Some.ensures.value
