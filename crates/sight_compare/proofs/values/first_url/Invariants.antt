use Rattle.std.proofs.Common.{◌≡◌, Some, drop, find}
use Rattle.policy_eval.specs.Rules.{texts_of}
use Rattle.equal_sights.specs.Seen.{first_url, is_url}
use Rattle.sight_compare.proofs.values.first_url.Given as goal

-- the first of those that are left is the first of all
abbrev pub invariant-loop-point : goal.invariant-loop-point
invariant-loop-point l = find is_url (texts_of (drop l.point-index l.items)) ≡ first_url (Some l.points)
