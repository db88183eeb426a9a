use Rattle.std.proofs.Common.{◌≡◌, drop}
use Rattle.std.specs.Cmp.Lexicographic.{pointwise}
use Rattle.std.specs.List.{filter_map}
use Rattle.resource_model.specs.Attributes.{same_row}
use Rattle.sight_compare.specs.Shown.{row_at}
use Rattle.sight_compare.proofs.rows.are_rows_alike.Given as goal

-- the answer for those that are left is that for all
abbrev pub invariant-loop-row : goal.invariant-loop-row
invariant-loop-row l =
    pointwise same_row (filter_map (row_at l.left) (drop l.row-index l.rows)) (filter_map (row_at l.right) l.behind)
    ≡ pointwise same_row (filter_map (row_at l.left) l.rows) (filter_map (row_at l.right) l.others)
