use Rattle.std.proofs.Common.{◌≡◌, ◌++◌, ℕ, List, OnOk, ap, subst, ◌∙◌}
use Rattle.http_binding.proofs.ReplyLemmas.{primitive_is, start_is}
use Rattle.http_binding.proofs.writing.append_primitive.Goals as goal

pub returns : goal.returns
returns c =
    subst (λ t. OnOk c.append_id.result (c.append_id.new.out.items ≡ t))
    (primitive_is c.args.reply.now c.number.result c.args.out.now.items c.append_status.new.out.items c.append_code.new.out.items
    c.number.ensures.value (c.in_ok-append_status.ensures ∙ ap (λ (t : List ℕ). c.args.out.now.items ++ t) (start_is c.args.reply.now.rsc c.http_status.result c.http_status.ensures))
    c.in_ok-append_code.ensures)
    c.append_id.ensures
