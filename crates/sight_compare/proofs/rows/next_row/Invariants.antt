use Rattle.std.proofs.Common.{◌≡◌, drop}
use Rattle.std.specs.List.{filter_map}
use Rattle.sight_compare.specs.Shown.{row_at}
use Rattle.sight_compare.proofs.rows.next_row.Given as goal

-- what is seen of those that are left is what is seen of all
abbrev pub invariant-loop-i : goal.invariant-loop-i
invariant-loop-i l = filter_map (row_at l.glance) (drop l.i l.rows) ≡ filter_map (row_at l.glance) l.rows
