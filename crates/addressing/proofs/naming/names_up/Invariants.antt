use Rattle.std.proofs.Common.{◌≡◌, ◌++◌, map, IsTrue}
use Rattle.tree_model.specs.Tree.{is_tree, line_of}
use Rattle.addressing.proofs.naming.names_up.Given as goal

-- the names so far and those of the line that is left are those of the whole line
abbrev pub invariant-loop-resource : goal.invariant-loop-resource
invariant-loop-resource g l =
    (map (λ t. t.now) l.names.items ++ map (λ r. r.name) (line_of l.at (g.T.Tree.nodes l.tree))
    ≡ map (λ r. r.name) (line_of l.fn.number (g.T.Tree.nodes l.tree)))
    × IsTrue (is_tree (g.T.Tree.nodes l.tree))

abbrev pub decreases-loop-resource : goal.decreases-loop-resource
decreases-loop-resource g l = l.at
