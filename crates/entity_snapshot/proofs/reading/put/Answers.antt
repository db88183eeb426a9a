use Rattle.std.proofs.Common.{sym, ◌∙◌}
use Rattle.tree_model.proofs.GrowthLemmas.{fits_parts}
use Rattle.entity_snapshot.proofs.reading.put.Goals as goal

pub insert-requires : goal.insert-requires
insert-requires g c = (fits_parts (g.T.Tree.nodes c.args.tree.now) c.args.resource (sym c.fits.ensures ∙ c.if-not-fits.false)).stands
