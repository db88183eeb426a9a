use Rattle.std.proofs.Common.{◌≡◌, ◌++◌, ◌∷◌, [], None, OnOk, sym, subst}
use Rattle.http_binding.specs.Headers.{type_field}
use Rattle.http_binding.specs.Replying.{content_lines}
use Rattle.http_binding.proofs.reply.push_type.Goals as goal

pub returns-in-Some : goal.returns-in-Some
returns-in-Some c =
    subst (λ content. OnOk c.push_field.result (c.push_field.new.lines.items ≡ c.args.lines.now.items ++ content_lines None content)) (sym c.in-Some.is)
    (subst (λ value. OnOk c.push_field.result (c.push_field.new.lines.items ≡ c.args.lines.now.items ++ (type_field, value) ∷ []))
    c.as_bytes.ensures.value c.push_field.ensures)
