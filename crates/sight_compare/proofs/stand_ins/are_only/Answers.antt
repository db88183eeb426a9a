use Rattle.std.proofs.Common.{[], ◌∷◌, sym, arith}
use Rattle.m2m_value.specs.Data.{text}
use Rattle.m2m_value.specs.Same.{longer_items}
use Rattle.sight_compare.proofs.stand_ins.are_only.Goals as goal

pub returns-in_default-2 : goal.returns-in_default-2
returns-in_default-2 c =
    let many = c.in_default.len_at_least in
    sym (longer_items c.args.items.now (text c.args.text.now ∷ []) (λ e. omega (arith, many, e)))
