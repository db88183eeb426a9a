use Rattle.announce_copy.proofs.PeerLemmas.{one_noted}
use Rattle.announce_copy.proofs.peers.note_container.Goals as goal

pub returns-clause-known : goal.returns-clause-known
returns-clause-known g c =
    one_noted (g.T.Tree.nodes c.args.tree.now) c.args.known.now.entries c.insert.new.self.entries c.args.container c.in_ok-peers.peers
    c.requires c.in_ok-peers.ensures (λ q. c.in_ok-insert.ensures.updates.0 q)
