use Rattle.std.proofs.Common.{◌≡◌, drop, length}
use Rattle.m2m_value.specs.Same.{same_items, same_members}
use Rattle.m2m_value.proofs.same.+same.Given as goal

-- the answer for all is that for the rest
abbrev pub invariant-are_same_items-loop-i : goal.invariant-are_same_items-loop-i
invariant-are_same_items-loop-i l =
    (same_items (drop l.i l.one) (drop l.i l.other) ≡ same_items l.one l.other) × (length l.one ≡ length l.other)

abbrev pub invariant-are_same_members-loop-i : goal.invariant-are_same_members-loop-i
invariant-are_same_members-loop-i l =
    (same_members (drop l.i l.one) (drop l.i l.other) ≡ same_members l.one l.other) × (length l.one ≡ length l.other)
