use Rattle.std.proofs.Common.{◌≡◌, drop}
use Rattle.request_rules.specs.Groups.{are_addresses}
use Rattle.request_rules.proofs.groups.are_addresses.Given as goal

-- what holds of those that are left holds of all
abbrev pub invariant-loop-value : goal.invariant-loop-value
invariant-loop-value l =
    are_addresses l.home (drop l.value-index l.values) ≡ are_addresses l.home l.values
