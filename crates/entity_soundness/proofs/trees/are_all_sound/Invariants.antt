use Rattle.std.proofs.Common.{◌≡◌}
use Rattle.std.specs.List.{list_all}
use Rattle.entity_soundness.specs.Tested.{is_sound}
use Rattle.entity_soundness.proofs.trees.are_all_sound.Given as goal

-- the answer for the rest is that for all
abbrev pub invariant-loop-resource : goal.invariant-loop-resource
invariant-loop-resource g l =
    list_all (is_sound l.home (g.T.Tree.nodes l.tree) l.next l.last) l.resource-iterator
    ≡ list_all (is_sound l.home (g.T.Tree.nodes l.tree) l.next l.last) (g.T.Tree.nodes l.tree)
