use Rattle.std.proofs.Common.{[], ◌∷◌, sym, arith}
use Rattle.m2m_value.specs.Same.{longer_items}
use Rattle.policy_eval.specs.Originators.{everyone}
use Rattle.policy_eval.specs.Rules.{written_rule}
use Rattle.sight_compare.proofs.stand_ins.are_plain_rule.Goals as goal

pub returns-in_default-2 : goal.returns-in_default-2
returns-in_default-2 c =
    let many = c.in_default.len_at_least in
    sym (longer_items c.args.items.now (written_rule everyone c.args.bits ∷ []) (λ e. omega (arith, many, e)))
