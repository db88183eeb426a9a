use Rattle.std.proofs.Common.{ap}
use Rattle.desk_replies.specs.Replies.{reply_of}
use Rattle.desk_replies.proofs.RepliesLemmas.{no_reply, over_done}
use Rattle.desk_replies.proofs.replying.reply_over.Goals as goal

pub returns-in-Done : goal.returns-in-Done
returns-in-Done g c = λ request binds.
    over_done request c.args.outcome c.in-Done.reply _ (ap reply_of c.in-Done.is)

pub reply_elsewhere-requires-clause-other : goal.reply_elsewhere-requires-clause-other
reply_elsewhere-requires-clause-other g c = no_reply c.args.outcome c.in_default.not-Done
