use Rattle.std.proofs.Common.{◌≡◌, ◌++◌, ◌∷◌, [], OnOk, sym, subst, ◌∙◌}
use Rattle.http_binding.specs.Headers.{expiry_field}
use Rattle.http_client_binding.specs.Asking.{expiry_lines}
use Rattle.http_client_binding.proofs.request.push_expiry.Goals as goal

pub returns-in_ok-text-in-Some : goal.returns-in_ok-text-in-Some
returns-in_ok-text-in-Some c =
    subst (λ when. OnOk c.push_field.result (c.push_field.new.lines.items ≡ c.args.lines.now.items ++ expiry_lines when)) (sym c.in-Some.is)
    (subst (λ value. OnOk c.push_field.result (c.push_field.new.lines.items ≡ c.args.lines.now.items ++ (expiry_field, value) ∷ []))
    (c.entries.ensures ∙ c.in_ok-text-in-Some.ensures.value) c.push_field.ensures)
