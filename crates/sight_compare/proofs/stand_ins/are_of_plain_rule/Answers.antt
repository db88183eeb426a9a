use Rattle.std.proofs.Common.{sym, arith}
use Rattle.m2m_value.specs.Same.{longer_members}
use Rattle.sight_compare.specs.StandIns.{plain_rule_members}
use Rattle.sight_compare.proofs.stand_ins.are_of_plain_rule.Goals as goal

pub returns-in_default : goal.returns-in_default
returns-in_default c =
    let few = c.in_default.len_below in
    sym (longer_members c.args.members.now (plain_rule_members c.args.bits) (λ e. omega (arith, few, e)))

pub returns-in_default-2 : goal.returns-in_default-2
returns-in_default-2 c =
    let many = c.in_default.len_at_least in
    sym (longer_members c.args.members.now (plain_rule_members c.args.bits) (λ e. omega (arith, many, e)))
