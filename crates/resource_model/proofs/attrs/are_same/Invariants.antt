use Rattle.std.proofs.Common.{◌≡◌, drop, length}
use Rattle.std.specs.Cmp.Lexicographic.{pointwise}
use Rattle.resource_model.specs.Attributes.{same_row}
use Rattle.resource_model.proofs.attrs.are_same.Given as goal

-- the answer for all is that for the rest
abbrev pub invariant-loop-i : goal.invariant-loop-i
invariant-loop-i l =
    (pointwise same_row (drop l.i l.one) (drop l.i l.other) ≡ pointwise same_row l.one l.other)
    × (length l.one ≡ length l.other)
