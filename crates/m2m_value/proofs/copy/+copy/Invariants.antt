use Rattle.std.proofs.Common.{◌≡◌, take}
use Rattle.m2m_value.proofs.copy.+copy.Given as goal

abbrev pub invariant-copied_items-loop-value : goal.invariant-copied_items-loop-value
invariant-copied_items-loop-value l = l.values.items ≡ take l.value-index l.value-items

abbrev pub invariant-copied_members-loop-member : goal.invariant-copied_members-loop-member
invariant-copied_members-loop-member l = l.entries.items ≡ take l.member-index l.member-items
