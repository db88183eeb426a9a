use Rattle.std.proofs.Common.{◌+◌, ◌≤◌, ◌<◌, ◌/◌, ◌^◌, length, decimal, ap, sym, ◌∙◌, arith, length-append}
use Rattle.std.proofs.lemmas.Fmt.{decimal_digit, decimal_step, length-decimal-le}
use Rattle.m2m_value.proofs.size.+digits_len.Goals as goal

pub returns-then-n-lt10-clause-value : goal.returns-then-n-lt10-clause-value
returns-then-n-lt10-clause-value t c = ap length (sym (decimal_digit c.args.n (omega arith)))

pub returns-else-n-lt10-clause-value : goal.returns-else-n-lt10-clause-value
returns-else-n-lt10-clause-value t c =
    ap (λ k. k + 1) c.digits_len.ensures.value ∙ sym (ap length (decimal_step c.args.n (omega (arith, c.if-n-lt10.false)) (omega arith)) ∙ length-append (decimal (c.args.n / 10)) _)

pub returns-else-n-lt10-clause-bound : goal.returns-else-n-lt10-clause-bound
returns-else-n-lt10-clause-bound t c =
    let small : c.args.n / 10 < 10 ^ 19 = omega arith in
    let short : length (decimal (c.args.n / 10)) ≤ 19 = length-decimal-le 19 (c.args.n / 10) (omega arith) small (omega arith) in
    omega (arith, short, c.digits_len.ensures.value)
