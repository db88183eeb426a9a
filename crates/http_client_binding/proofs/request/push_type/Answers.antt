use Rattle.std.proofs.Common.{◌≡◌, ◌++◌, ◌∷◌, [], OnOk, sym, subst, ◌∙◌}
use Rattle.http_binding.specs.Headers.{type_field}
use Rattle.http_binding.specs.Replying.{content_lines}
use Rattle.http_client_binding.proofs.request.push_type.Goals as goal

pub returns-in_ok-text-in-Some : goal.returns-in_ok-text-in-Some
returns-in_ok-text-in-Some c =
    subst (λ content. OnOk c.push_field.result (c.push_field.new.lines.items ≡ c.args.lines.now.items ++ content_lines c.args.number content)) (sym c.in-Some.is)
    (subst (λ value. OnOk c.push_field.result (c.push_field.new.lines.items ≡ c.args.lines.now.items ++ (type_field, value) ∷ []))
    (c.as_bytes.ensures.value ∙ c.in_ok-text-in-Some.ensures) c.push_field.ensures)
