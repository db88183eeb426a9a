use Rattle.std.proofs.Common.{sym}
use Rattle.policy_eval.specs.Originators.{own_lead}
use Rattle.policy_eval.proofs.FormLemmas.{same_apart}
use Rattle.policy_eval.proofs.originators.is_other.Goals as goal

pub returns-in-Own : goal.returns-in-Own
returns-in-Own c =
    rw c.in-Own.ensures (sym (same_apart (own_lead c.args.home.now) c.args.path.now c.in-Own.field-0.now c.requires))
