use Rattle.std.proofs.Common.{◌≡◌, ◌++◌, ◌∷◌, [], OnOk, sym, subst}
use Rattle.http_binding.specs.Headers.{origin_field}
use Rattle.http_client_binding.specs.Asking.{origin_lines}
use Rattle.http_client_binding.proofs.request.push_origin.Goals as goal

pub returns-in-Some : goal.returns-in-Some
returns-in-Some c =
    subst (λ fr. OnOk c.push_field.result (c.push_field.new.lines.items ≡ c.args.lines.now.items ++ origin_lines fr)) (sym c.in-Some.is)
    (subst (λ value. OnOk c.push_field.result (c.push_field.new.lines.items ≡ c.args.lines.now.items ++ (origin_field, value) ∷ []))
    c.entries.ensures c.push_field.ensures)
