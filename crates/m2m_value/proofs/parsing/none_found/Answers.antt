use Rattle.std.proofs.Common.{sym, subst}
use Rattle.m2m_value.specs.Node.{AreSorted}
use Rattle.m2m_value.proofs.Lookup.{none_sorted}
use Rattle.m2m_value.proofs.parsing.none_found.Goals as goal

pub of-requires : goal.of-requires
of-requires c = subst AreSorted (sym c.in-Ok.ensures.items) none_sorted
