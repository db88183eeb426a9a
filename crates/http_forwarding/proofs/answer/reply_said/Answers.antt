use Rattle.http_forwarding.proofs.AnswerLemmas.{said_by_none, said_of}
use Rattle.http_forwarding.proofs.answer.reply_said.Goals as goal

pub returns-in_default : goal.returns-in_default
returns-in_default c = said_by_none c.args.bytes.items c.in_ok-frame.field-0 c.in_default.is c.in_ok-frame.ensures

pub returns : goal.returns
returns c = said_of c.args.bytes.items c.in-Some.frame c.in_ok-frame.field-0 c.reply_in.result c.in-Some.is c.in_ok-frame.ensures c.reply_in.ensures
