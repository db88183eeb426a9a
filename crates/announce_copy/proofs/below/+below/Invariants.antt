use Rattle.std.proofs.Common.{◌≡◌, ℕ, ◌<◌, ◌-◌, ◌^◌, ◌+◌, Some, false}
use Rattle.tree_model.specs.Tree.{children_of, number_at}
use Rattle.announce_copy.specs.Below.{announces_below}
use Rattle.announce_copy.proofs.below.+below.Given as goal

-- nothing is announced at or below each child that was looked at
abbrev pub invariant-does_kid_announce-loop-place : goal.invariant-does_kid_announce-loop-place
invariant-does_kid_announce-loop-place g l =
    let nodes = g.T.Tree.nodes l.tree in
    (k m : ℕ) → k < l.place → Some m ≡ number_at k (children_of l.number nodes) → announces_below m nodes ≡ false

-- numbers grow on the way down
abbrev pub decreases-announces_below : goal.decreases-announces_below
decreases-announces_below g l = (2 ^ 64 - l.number) + (2 ^ 64 - l.number) + 1

abbrev pub decreases-does_kid_announce : goal.decreases-does_kid_announce
decreases-does_kid_announce g l = (2 ^ 64 - l.number) + (2 ^ 64 - l.number)
