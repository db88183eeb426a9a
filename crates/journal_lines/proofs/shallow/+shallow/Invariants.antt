use Rattle.std.proofs.Common.{◌≡◌, nat_le, ◌+◌, drop}
use Rattle.m2m_value.specs.Data.{elements_depth, elements_of, pairs_depth, pairs_of}
use Rattle.journal_lines.proofs.shallow.+shallow.Given as goal

-- the answer for all is that for the rest
abbrev pub invariant-are_items_within-loop-value : goal.invariant-are_items_within-loop-value
invariant-are_items_within-loop-value l =
    nat_le (elements_depth (elements_of (drop l.value-index l.values))) l.most ≡ nat_le (elements_depth (elements_of l.values)) l.most

abbrev pub invariant-are_members_within-loop-member : goal.invariant-are_members_within-loop-member
invariant-are_members_within-loop-member l =
    nat_le (pairs_depth (pairs_of (drop l.member-index l.members))) l.most ≡ nat_le (pairs_depth (pairs_of l.members)) l.most

-- a level down, less deep is asked for
abbrev pub decreases-is_within : goal.decreases-is_within
decreases-is_within l = l.most + l.most + 1

abbrev pub decreases-are_items_within : goal.decreases-are_items_within
decreases-are_items_within l = l.most + l.most + 2

abbrev pub decreases-are_members_within : goal.decreases-are_members_within
decreases-are_members_within l = l.most + l.most + 2
