use Rattle.std.proofs.Common.{◌≡◌, ◌++◌, ◌≤◌, ◌-◌, ◌^◌, ◌+◌, take, drop, length}
use Rattle.std.specs.List.{flat_map}
use Rattle.tree_model.specs.Tree.{children_of}
use Rattle.known_rights.specs.Known.{IsKnown}
use Rattle.retrieve_discover.specs.Descendants.{below}
use Rattle.retrieve_discover.specs.Findings.{address, is_found}
use Rattle.retrieve_discover.proofs.BelowLemmas.{with_below}
use Rattle.retrieve_discover.proofs.WalkLemmas.{kept}
use Rattle.retrieve_discover.proofs.finding.+finding.Given as goal

-- what is found so far, and what is below the children that are left, are what is found in all, up
-- to the limit
abbrev pub invariant-find_below-loop-k : goal.invariant-find_below-loop-k
invariant-find_below-loop-k g l =
    let nodes = g.T.Tree.nodes l.wanted.tree.now in
    let keep = kept (address l.wanted.by_id nodes) (is_found l.wanted.asker.now.home nodes l.wanted.asker.now.originator l.wanted.filter.now) in
    record {
      told : take l.wanted.limit (l.found.items ++ keep (flat_map (with_below nodes) (drop l.k (children_of l.parent nodes)))) ≡ take l.wanted.limit (l.fn.found.items ++ keep (below l.parent nodes));
      room : length l.found.items ≤ l.wanted.limit;
      path : l.path.items ≡ l.fn.path.items;
      known : IsKnown l.wanted.asker.now.home nodes l.wanted.asker.now.originator l.known;
    }

-- numbers grow on the way down; a child comes before what is below it
abbrev pub decreases-find_below : goal.decreases-find_below
decreases-find_below g l = (2 ^ 64 - l.parent) + (2 ^ 64 - l.parent)

abbrev pub decreases-visit : goal.decreases-visit
decreases-visit g l = (2 ^ 64 - l.child.now.parent) + (2 ^ 64 - l.child.now.parent) - 1
