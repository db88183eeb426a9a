use Rattle.std.proofs.Common.{◌≡◌, length}
use Rattle.announce_copy.specs.Copies.{copies_of_all}
use Rattle.announce_copy.proofs.copying.all_copies.Given as goal

-- nothing is sent for the changes so far
abbrev pub invariant-loop-change : goal.invariant-loop-change
invariant-loop-change g l =
    let nodes = g.T.Tree.nodes l.tree in
    copies_of_all l.home nodes l.left ≡ copies_of_all l.home nodes l.fn.changes

abbrev pub decreases-loop-change : goal.decreases-loop-change
decreases-loop-change g l = length l.left
