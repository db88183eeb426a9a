use Rattle.std.proofs.Common.{sym, ◌∙◌}
use Rattle.policy_eval.specs.Originators.{own_lead}
use Rattle.policy_eval.proofs.FormLemmas.{same_behind, apart_same}
use Rattle.policy_eval.proofs.originators.is_own.Goals as goal

pub returns-in-Own : goal.returns-in-Own
returns-in-Own c =
    rw c.in-Own.ensures (c.are_equal.ensures ∙ sym (same_behind (own_lead c.args.home.now) c.args.own.now c.in-Own.said.now))

pub returns-in-Other : goal.returns-in-Other
returns-in-Other c =
    let other = c.in-Other.ensures in
    rw other.0 (sym (apart_same (own_lead c.args.home.now) c.in-Other.field-0.now c.args.own.now other.1))
