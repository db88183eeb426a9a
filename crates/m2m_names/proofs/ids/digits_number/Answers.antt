use Rattle.std.proofs.Common.{◌≡◌, ◌<◌, ◌^◌, take, sym, ap, ◌∙◌, subst, arith}
use Rattle.std.proofs.lemmas.List.{take_all}
use Rattle.std.specs.Str.Parse.{digits_value}
use Rattle.m2m_names.proofs.NumeralLemmas.{adds_digit, numeral_bound}
use Rattle.m2m_names.proofs.ids.digits_number.Goals as goal

pub overflow_mul-number : goal.overflow_mul-number
overflow_mul-number c =
    let more = adds_digit c.args.digits.now c.loop-digit.digit-index c.requires (omega arith) in
    omega (arith, more.next, more.bound, c.loop-digit.invariant)

pub overflow_add-number : goal.overflow_add-number
overflow_add-number c =
    let more = adds_digit c.args.digits.now c.loop-digit.digit-index c.requires (omega arith) in
    omega (arith, more.next, more.bound, c.loop-digit.invariant)

pub loop-digit-preserved : goal.loop-digit-preserved
loop-digit-preserved c =
    let more = adds_digit c.args.digits.now c.loop-digit.digit-index c.requires (omega arith) in
    omega (arith, more.next, c.loop-digit.invariant)

pub returns-clause-bound : goal.returns-clause-bound
returns-clause-bound c =
    let whole = numeral_bound c.args.digits.now c.requires in
    let all : take c.loop-digit.digit-index c.args.digits.now ≡ c.args.digits.now = take_all _ _ c.loop-digit-test.false in
    subst (λ n. n < 10 ^ 18) (sym (c.loop-digit.invariant ∙ ap (digits_value 10) all)) whole
