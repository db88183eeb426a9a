use Rattle.retrieve_discover.proofs.contents.whole.Goals as goal

pub add_descendants-requires-clause-known : goal.add_descendants-requires-clause-known
add_descendants-requires-clause-known g c =
    let look = c.args.look.now in
    c.nothing-known.ensures look.asker.now.home (g.T.Tree.nodes look.tree.now) look.asker.now.originator
