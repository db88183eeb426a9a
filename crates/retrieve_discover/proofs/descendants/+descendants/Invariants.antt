use Rattle.std.proofs.Common.{◌≡◌, ◌-◌, ◌^◌, ◌+◌, drop}
use Rattle.m2m_value.specs.Node.{HaveTextKeys}
use Rattle.known_rights.specs.Known.{IsKnown}
use Rattle.tree_model.specs.Tree.{children_of}
use Rattle.retrieve_discover.specs.Contents.{may_retrieve, members, with_forest}
use Rattle.retrieve_discover.specs.Descendants.{cut_forest, forest_of, forest_size}
use Rattle.retrieve_discover.proofs.ForestLemmas.{chain}
use Rattle.retrieve_discover.proofs.descendants.+descendants.Given as goal

-- what is shown so far, and what is reached through the children that are left, are what is shown
-- in all, and as many are left
abbrev pub invariant-add_descendants-loop-k : goal.invariant-add_descendants-loop-k
invariant-add_descendants-loop-k g l =
    let nodes = g.T.Tree.nodes l.look.tree.now in
    let goes = may_retrieve l.look.asker.now.home nodes l.look.asker.now.originator in
    let show = members l.look.asker.now.home nodes in
    let left = chain goes nodes (drop l.k (children_of l.parent nodes)) in
    record {
      shown : with_forest show (cut_forest left l.left) l.members ≡ with_forest show (cut_forest (forest_of goes l.parent nodes) l.fn.left) l.fn.members;
      left : l.left - forest_size left ≡ l.fn.left - forest_size (forest_of goes l.parent nodes);
      keys : HaveTextKeys l.fn.members → HaveTextKeys l.members;
      known : IsKnown l.look.asker.now.home nodes l.look.asker.now.originator l.known;
    }

abbrev pub decreases-add_descendants : goal.decreases-add_descendants
decreases-add_descendants g l = (2 ^ 64 - l.parent) + (2 ^ 64 - l.parent)

abbrev pub decreases-add_child : goal.decreases-add_child
decreases-add_child g l = (2 ^ 64 - l.child.now.parent) + (2 ^ 64 - l.child.now.parent) - 1
