use Rattle.std.proofs.Common.{sym, subst}
use Rattle.resource_model.specs.Attributes.{AreInOrder}
use Rattle.resource_model.proofs.AttributeLemmas.{no_rows}
use Rattle.resource_model.proofs.attrs.Attrs.new.Goals as goal

pub invariant_of-result : goal.invariant_of-result
invariant_of-result c = subst AreInOrder (sym c.new.ensures.items) no_rows
