use Rattle.std.proofs.Common.{◌≡◌, drop}
use Rattle.m2m_value.specs.View.{member_of}
use Rattle.filter_criteria.proofs.values.value_among.Given as goal

-- what stands at the name among those that are left stands there among all
abbrev pub invariant-loop-key : goal.invariant-loop-key
invariant-loop-key l = member_of l.name (drop l.key-index l.members) ≡ member_of l.name l.members
