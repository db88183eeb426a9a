use Rattle.std.proofs.Common.{arith}
use Rattle.m2m_value.proofs.Nested.{items_below}
use Rattle.m2m_value.proofs.size.+text_len.Goals as goal

pub shared_len-items_len-requires : goal.shared_len-items_len-requires
shared_len-items_len-requires t c =
    let below = items_below c.items.result.now c.args.shared.now c.items.ensures in
    let here = c.decreases in
    (omega (arith, below, here), tt)
