use Rattle.std.proofs.Common.{sym, subst, ◌∙◌}
use Rattle.resource_model.specs.Attributes.{AreInOrder}
use Rattle.tree_model.proofs.showing.copied.Goals as goal

pub of-requires : goal.of-requires
of-requires c = subst AreInOrder (sym (c.in_ok-copied_rows.ensures ∙ c.entries.ensures.all)) c.entries.ensures.order
