use Rattle.std.proofs.Common.{◌≡◌, ◌≤◌, ◌+◌, ◌++◌, length, vec_capacity}
use Rattle.std.specs.Vec.Iter.{into_iter_items}
use Rattle.subscription_match.specs.Items.{items_of}
use Rattle.subscription_match.proofs.items.items_of.Given as goal

-- those so far and those of what is left are those of all, and there is room for the rest
abbrev pub invariant-loop-draft : goal.invariant-loop-draft
invariant-loop-draft g l =
    let nodes = g.T.Tree.nodes l.tree in
    (l.items.items ++ items_of l.home nodes (into_iter_items l.draft-iterator)
    ≡ items_of l.home nodes l.fn.drafts.items)
    × (length l.items.items + length (into_iter_items l.draft-iterator) ≤ vec_capacity l.items)
