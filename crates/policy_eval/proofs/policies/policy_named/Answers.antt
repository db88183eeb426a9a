use Rattle.std.proofs.Common.{ap, sym, ◌∙◌}
use Rattle.std.specs.Option.{option_and_then}
use Rattle.policy_eval.specs.Rules.{policy_at}
use Rattle.policy_eval.proofs.PolicyLemmas.{policy_as_numbered}
use Rattle.policy_eval.proofs.policies.policy_named.Goals as goal

pub returns-in_err-policy_number : goal.returns-in_err-policy_number
returns-in_err-policy_number g c =
    let nodes = g.T.Tree.nodes c.args.tree.now in
    let none = sym c.policy_number.ensures ∙ c.in_err-policy_number.was in
    rw c.from_residual.ensures (sym (policy_as_numbered nodes c.args.id.now ∙ ap (option_and_then (policy_at nodes)) none))

pub returns : goal.returns
returns g c =
    let nodes = g.T.Tree.nodes c.args.tree.now in
    let numbered = sym c.policy_number.ensures ∙ c.in_ok-policy_number.was in
    c.policy_at.ensures ∙ sym (policy_as_numbered nodes c.args.id.now ∙ ap (option_and_then (policy_at nodes)) numbered)
