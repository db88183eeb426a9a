use Rattle.std.proofs.Common.{◌≡◌, map}
use Rattle.std.specs.Cmp.Lexicographic.{pointwise}
use Rattle.equal_sights.specs.Seen.{seen, seen_list}
use Rattle.sight_compare.specs.Same.{same_resource}
use Rattle.sight_compare.proofs.sights.are_seen_alike.Given as goal

-- the answer for those that are left is that for all
abbrev pub invariant-loop-resource : goal.invariant-loop-resource
invariant-loop-resource g l =
    let lefts = g.T.Tree.nodes l.left.tree.now in
    let rights = g.T.Tree.nodes l.right.tree.now in
    let home = l.left.home.now in
    let beside = l.right.home.now in
    pointwise same_resource (map (seen home lefts l.left.originator.now) l.resource-iterator)
    (map (seen beside rights l.right.originator.now) l.others)
    ≡ pointwise same_resource (seen_list home lefts l.left.originator.now)
    (seen_list beside rights l.right.originator.now)
