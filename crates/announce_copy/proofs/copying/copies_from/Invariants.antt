use Rattle.std.proofs.Common.{◌≡◌, ◌++◌}
use Rattle.tree_model.specs.Changes.{change_of}
use Rattle.announce_copy.specs.Copies.{AreAddressed, copies_of, copies_of_all}
use Rattle.announce_copy.specs.Peers.{AreNoted}
use Rattle.announce_copy.proofs.copying.copies_from.Given as goal

-- those so far and those of the changes that are left are those of all
abbrev pub invariant-loop-change : goal.invariant-loop-change
invariant-loop-change g l =
    let nodes = g.T.Tree.nodes l.tree in
    (l.drafts.items ++ copies_of_all l.home nodes l.change-iterator
    ≡ copies_of l.home nodes (change_of l.fn.first) ++ copies_of_all l.home nodes l.fn.others)
    × AreNoted nodes l.known.entries
    × AreAddressed l.drafts.items
