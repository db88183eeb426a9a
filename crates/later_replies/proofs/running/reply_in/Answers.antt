use Rattle.std.proofs.Common.{sym, ap}
use Rattle.later_replies.specs.Runs.{reply_in}
use Rattle.later_replies.proofs.RunLemmas.{no_reply}
use Rattle.later_replies.proofs.running.reply_in.Goals as goal

pub returns-in-Done : goal.returns-in-Done
returns-in-Done c = sym (ap reply_in c.in-Done.is)

pub returns-in_default : goal.returns-in_default
returns-in_default c = no_reply c.args.outcome c.in_default.not-Done
