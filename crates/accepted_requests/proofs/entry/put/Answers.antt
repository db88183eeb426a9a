use Rattle.std.specs.Prelude.{unwrap_or}
use Rattle.std.proofs.Common.{Option, sym, ap}
use Rattle.primitive_json.specs.declared.reply.ReplyParts.{ReplyParts}
use Rattle.accepted_requests.proofs.entry.put.Goals as goal

pub returns-in-Some : goal.returns-in-Some
returns-in-Some c = sym (ap (λ (told : Option ReplyParts). unwrap_or told c.args.kept.now) c.in-Some.is)

pub returns-in-None : goal.returns-in-None
returns-in-None c = sym (ap (λ (told : Option ReplyParts). unwrap_or told c.args.kept.now) c.in-None.is)
