use Rattle.std.proofs.Common.{◌≡◌, List, ℕ, [], ◌∷◌, ◌++◌, ap, ◌∙◌}
use Rattle.announce_copy.proofs.PeerLemmas.{one_more}
use Rattle.announce_copy.proofs.peers.Peers.with.Goals as goal

pub invariant_of-result : goal.invariant_of-result
invariant_of-result c =
    let texts = c.self.inside.listed.items in
    let key : c.in_ok-from_slice.field-0.items ≡ c.args.peer.now = c.in_ok-from_slice.ensures.items ∙ c.entries-2.ensures in
    let more : c.push.new.self.items ≡ texts ++ c.args.peer.now ∷ [] =
    c.in_ok-push.ensures.items ∙ ap (λ (t : List ℕ). texts ++ t ∷ []) c.in_ok-copy.ensures in
    one_more texts c.push.new.self.items c.in_ok-from_slice.field-0 c.args.peer.now c.self.inside.set c.insert.new.self
    c.self.invariant more key c.requires c.in_ok-insert.ensures.updates
