use Rattle.std.proofs.Common.{◌≡◌, true, List, take, ℕ, sym, subst, arith}
use Rattle.m2m_names.specs.Name.{is_numeral}
use Rattle.m2m_names.proofs.UrlLemmas.{port_numeral}
use Rattle.m2m_names.proofs.urls.port_digits.Goals as goal

pub digits_number-number-requires : goal.digits_number-number-requires
digits_number-number-requires c =
    subst (λ (ds : List ℕ). is_numeral ds ≡ true) (sym c.split_at.ensures.front)
    (port_numeral c.args.bytes.now c.digits_len-len.result c.digits_len-len.ensures.value (omega (arith, c.if-len-lt1.false)) (omega (arith, c.if-len-gt-PORT_DIGITS_LIMIT.false)))
