use Rattle.std.proofs.Common.{◌≡◌, ◌++◌, ◌∷◌, [], OnOk, subst}
use Rattle.std.specs.Fmt.{decimal}
use Rattle.http_binding.specs.Headers.{code_field}
use Rattle.http_binding.proofs.reply.push_code.Goals as goal

pub returns : goal.returns
returns c =
    subst (λ n. OnOk c.push_number_field.result (c.push_number_field.new.lines.items ≡ c.args.lines.now.items ++ (code_field, decimal n) ∷ []))
    c.from.ensures c.push_number_field.ensures
