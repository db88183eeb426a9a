use Rattle.std.proofs.Common.{◌≡◌, ◌≤◌, ◌+◌, ◌++◌, length, drop, vec_capacity}
use Rattle.std.specs.List.{items_where_true}
use Rattle.std.specs.Vec.Iter.{into_iter_items}
use Rattle.subscription_match.proofs.spending.put_marked.Given as goal

-- those so far, and those that are marked of the rest, are those of all; there is room for the rest,
-- and a mark for each
abbrev pub invariant-loop-draft : goal.invariant-loop-draft
invariant-loop-draft l =
    (l.kept.items ++ items_where_true (drop l.place l.marks) (into_iter_items l.draft-iterator) ≡ items_where_true l.marks l.fn.drafts.items)
    × (length l.kept.items + length (into_iter_items l.draft-iterator) ≤ vec_capacity l.kept)
    × (l.place + length (into_iter_items l.draft-iterator) ≡ length l.marks)
