use Rattle.std.proofs.Common.{length}
use Rattle.m2m_names.proofs.attributes.+order_of.Given as goal

-- each step leaves less of the short name
abbrev pub decreases-order_of : goal.decreases-order_of
decreases-order_of l = length l.short.now
