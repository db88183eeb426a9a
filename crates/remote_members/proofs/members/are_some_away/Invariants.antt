use Rattle.std.proofs.Common.{◌≡◌, drop}
use Rattle.std.specs.List.{list_any}
use Rattle.remote_members.specs.Remote.{is_away}
use Rattle.remote_members.proofs.members.are_some_away.Given as goal

-- what some of those that are left are, some of all are
abbrev pub invariant-loop-entry : goal.invariant-loop-entry
invariant-loop-entry l = list_any (is_away l.home) (drop l.entry-index l.entries) ≡ list_any (is_away l.home) l.entries
