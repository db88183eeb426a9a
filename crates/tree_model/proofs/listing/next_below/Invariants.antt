use Rattle.std.proofs.Common.{◌≡◌, filter}
use Rattle.tree_model.specs.Tree.{is_at_or_below}
use Rattle.tree_model.proofs.listing.next_below.Given as goal

-- what was passed over isn't one of them
abbrev pub invariant-loop-resource : goal.invariant-loop-resource
invariant-loop-resource g l =
    (goal.iterator-loop-resource g).can_next l.left
    × (goal.iterator-loop-resource g).is_finite l.left
    × (filter (is_at_or_below l.target (g.T.Tree.nodes l.tree)) l.left ≡ filter (is_at_or_below l.target (g.T.Tree.nodes l.tree)) l.fn.left)
