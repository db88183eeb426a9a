use Rattle.std.proofs.Common.{◌≡◌, ℕ, List, ◌++◌, IfOk, ap, subst, ◌∙◌}
use Rattle.primitive_json.specs.declared.reply.ReplyParts.{ReplyParts}
use Rattle.http_binding.specs.Replying.{reply_text}
use Rattle.http_binding.proofs.writing.reply_bytes.Goals as goal

pub returns-clause-text : goal.returns-clause-text
returns-clause-text c =
    subst (λ (t : List ℕ). IfOk c.put_together.result (λ bytes. bytes ≡ t))
    (ap (λ t. c.in_ok-head.head.items ++ t) c.in_ok-text.ensures.body ∙ c.in_ok-head.ensures
    ∙ ap (λ (r : ReplyParts). reply_text r c.args.close) c.parts-parts.ensures.same)
    c.put_together.ensures
