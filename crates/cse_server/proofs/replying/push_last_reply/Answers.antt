use Rattle.std.proofs.Common.{true, ◌++◌, ap, ◌∙◌}
use Rattle.http_binding.specs.Replying.{reply_text}
use Rattle.primitive_json.specs.declared.reply.ReplyParts.{ReplyParts}
use Rattle.cse_server.proofs.replying.push_last_reply.Goals as goal

pub returns-clause-ok : goal.returns-clause-ok
returns-clause-ok g c =
    c.in_ok-push_reply_text.ensures.ok ∙ ap (λ (r : ReplyParts). c.args.waiting.now.items ++ reply_text r true) c.bare_reply-reply.ensures
