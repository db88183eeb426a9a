use Rattle.std.proofs.Common.{ℕ, List, Some, None, sym, ap, ◌∙◌}
use Rattle.m2m_names.specs.declared.codes.Rsc.TheVariants.{Internal}
use Rattle.primitive_json.specs.declared.reply.ReplyParts.{ReplyParts}
use Rattle.desk_replies.proofs.replying.starved_reply.Goals as goal

-- the reply with this identifier
abbrev starved_with : List ℕ → ReplyParts
starved_with id = record { rsc = Internal; rqi = Some id; pc = None }

pub returns : goal.returns
returns c = λ request same.
    c.bare_reply.ensures ∙ ap starved_with (c.in_ok-rqi.ensures ∙ sym same)
