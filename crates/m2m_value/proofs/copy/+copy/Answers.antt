use Rattle.std.proofs.Common.{arith}
use Rattle.m2m_value.proofs.Nested.{items_below}
use Rattle.m2m_value.proofs.copy.+copy.Goals as goal

pub copied_shared-copied_items-requires : goal.copied_shared-copied_items-requires
copied_shared-copied_items-requires t c =
    let below = items_below c.items.result.now c.args.shared.now c.items.ensures in
    let here = c.decreases in
    (omega (arith, below, here), tt)
