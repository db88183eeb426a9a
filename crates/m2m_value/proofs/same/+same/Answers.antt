use Rattle.std.proofs.Common.{rules, arith, sym}
use Rattle.m2m_value.specs.Same.{longer_items, longer_members}
use Rattle.m2m_value.proofs.Nested.{items_below}
use Rattle.m2m_value.proofs.same.+same.Goals as goal

pub is_same_shared-is_same_list-requires : goal.is_same_shared-is_same_list-requires
is_same_shared-is_same_list-requires t c =
    let below = items_below c.items.result.now c.args.shared.now c.items.ensures in
    let here = c.decreases in
    (omega (arith, below, here), tt)

pub are_same_items-returns-then-one-other : goal.are_same_items-returns-then-one-other
are_same_items-returns-then-one-other t c = sym (longer_items c.args.one.now c.args.other.now (search rules))

pub are_same_members-returns-then-one-other : goal.are_same_members-returns-then-one-other
are_same_members-returns-then-one-other t c = sym (longer_members c.args.one.now c.args.other.now (search rules))
