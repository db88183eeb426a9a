use Rattle.std.proofs.Common.{◌≡◌}
use Rattle.std.specs.Vec.Iter.{into_iter_items}
use Rattle.entity_model.specs.Lowering.{some_left}
use Rattle.entity_model.specs.Telling.{all_lowered_to}
use Rattle.entity_model.proofs.telling.count_all_anew.Given as goal

-- what is left to do, done to what stands now, is all of it done to what stood
abbrev pub invariant-loop-row : goal.invariant-loop-row
invariant-loop-row g l =
    all_lowered_to (some_left (into_iter_items l.row-iterator)) (g.T.Tree.nodes l.tree)
    ≡ all_lowered_to (some_left l.fn.rows.items) (g.T.Tree.nodes l.fn.tree)
