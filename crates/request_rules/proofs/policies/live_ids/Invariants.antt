use Rattle.std.proofs.Common.{◌≡◌, ◌++◌, drop, is_some}
use Rattle.std.specs.List.{list_all}
use Rattle.request_rules.specs.Policies.{policy_ids, policy_meant}
use Rattle.request_rules.proofs.policies.live_ids.Given as goal

-- the ids so far and those of what is left are those of all, and what holds of those that are left
-- holds of all
abbrev pub invariant-loop-value : goal.invariant-loop-value
invariant-loop-value g l = record {
  ids : l.ids.items ++ policy_ids l.entity (drop l.value-index l.values) ≡ policy_ids l.entity l.values;
  live : list_all (λ d. is_some (policy_meant l.entity d)) (drop l.value-index l.values) ≡ list_all (λ d. is_some (policy_meant l.entity d)) l.values;
}
