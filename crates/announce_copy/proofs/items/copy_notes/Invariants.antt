use Rattle.std.proofs.Common.{◌≡◌, ◌++◌}
use Rattle.std.specs.Vec.Iter.{into_iter_items}
use Rattle.announce_copy.specs.Copies.{AreAddressed}
use Rattle.announce_copy.specs.Items.{copy_notes}
use Rattle.announce_copy.proofs.items.copy_notes.Given as goal

-- those so far and those of what is left are those of all
abbrev pub invariant-loop-draft : goal.invariant-loop-draft
invariant-loop-draft g l =
    let nodes = g.T.Tree.nodes l.tree in
    (l.items.items ++ copy_notes l.home nodes (into_iter_items l.draft-iterator)
    ≡ copy_notes l.home nodes l.fn.drafts)
    × AreAddressed (into_iter_items l.draft-iterator)
