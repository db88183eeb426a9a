use Rattle.std.proofs.Common.{◌≡◌, drop, map}
use Rattle.policy_eval.specs.Rules.{stated_rule}
use Rattle.policy_eval.specs.Rights.{with_rules}
use Rattle.known_rights.proofs.rules.bits_by_rules.Given as goal

abbrev pub invariant-loop-rule : goal.invariant-loop-rule
invariant-loop-rule l =
    with_rules l.asker.home l.asker.originator l.bits (map stated_rule (drop l.rule-index l.rules)) ≡ with_rules l.asker.home l.asker.originator 0 (map stated_rule l.rules)
