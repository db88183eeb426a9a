use Rattle.std.proofs.Common.{◌≡◌, drop, map}
use Rattle.policy_eval.specs.Rules.{stated_rule}
use Rattle.policy_eval.specs.Rights.{with_rules}
use Rattle.policy_eval.proofs.rights.with_rules_of.Given as goal

abbrev pub invariant-loop-rule : goal.invariant-loop-rule
invariant-loop-rule l =
    with_rules l.home l.originator l.bits (map stated_rule (drop l.rule-index l.rules)) ≡ with_rules l.home l.originator l.fn.bits (map stated_rule l.rules)
