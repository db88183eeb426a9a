use Rattle.std.proofs.Common.{sym, ◌∙◌}
use Rattle.announce_copy.proofs.BelowLemmas.{unsent_deletion}
use Rattle.entity_model.proofs.sweeping.is_unnoticed.Goals as goal

pub returns : goal.returns
returns g c t = record {
  told = λ home going. c.is_untold.ensures t home going;
  sent = λ home. unsent_deletion home (g.T.Tree.nodes c.args.tree.now) c.args.gone.now (sym c.lists_peers.ensures ∙ c.if-lists_peers.false);
}
