use Rattle.std.proofs.Common.{◌≡◌, ℕ, ◌<◌, ◌-◌, ◌^◌, ◌+◌, Some}
use Rattle.tree_model.specs.Tree.{children_of, number_at}
use Rattle.create_delete.specs.Telling.{IsSilent}
use Rattle.create_delete.proofs.notifying.+silent.Given as goal

-- below each child that was looked at all is silent
abbrev pub invariant-are_kids_silent-loop-place : goal.invariant-are_kids_silent-loop-place
invariant-are_kids_silent-loop-place g l =
    let nodes = g.T.Tree.nodes l.tree in
    (k m : ℕ) → k < l.place → Some m ≡ number_at k (children_of l.number nodes) → IsSilent m nodes

-- numbers grow on the way down
abbrev pub decreases-is_silent : goal.decreases-is_silent
decreases-is_silent g l = (2 ^ 64 - l.number) + (2 ^ 64 - l.number) + 1

abbrev pub decreases-are_kids_silent : goal.decreases-are_kids_silent
decreases-are_kids_silent g l = (2 ^ 64 - l.number) + (2 ^ 64 - l.number)
