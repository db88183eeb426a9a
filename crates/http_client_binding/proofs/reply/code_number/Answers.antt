use Rattle.std.proofs.Common.{arith}
use Rattle.http_client_binding.proofs.CodeLemmas.{code_short}
use Rattle.http_client_binding.proofs.reply.code_number.Goals as goal

pub overflow_cast-result : goal.overflow_cast-result
overflow_cast-result c =
    let short = code_short c.args.text.now c.requires in
    omega (arith, short, c.digits_number.ensures.value)
