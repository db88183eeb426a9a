use Rattle.std.proofs.Common.{sym, ◌∙◌, arith}
use Rattle.http_binding.proofs.TypeLemmas.{are_short}
use Rattle.http_binding.proofs.media_type.type_digits_said.Goals as goal

pub overflow_cast-result : goal.overflow_cast-result
overflow_cast-result c =
    let short = are_short c.args.digits.now (sym c.is_type_digits.ensures ∙ c.if-is_type_digits.true) in
    omega (arith, short, c.digits_number.ensures.value)
