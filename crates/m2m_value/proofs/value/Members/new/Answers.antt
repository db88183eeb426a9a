use Rattle.std.proofs.Common.{sym, subst}
use Rattle.m2m_value.specs.Node.{AreSorted}
use Rattle.m2m_value.proofs.Lookup.{none_sorted}
use Rattle.m2m_value.proofs.value.Members.new.Goals as goal

pub invariant_of-result : goal.invariant_of-result
invariant_of-result c = subst AreSorted (sym c.new.ensures.items) none_sorted
