use Rattle.desk_replies.proofs.RepliesLemmas.{over_forward, over_starved}
use Rattle.desk_replies.proofs.replying.reply_elsewhere.Goals as goal

pub returns-in-Forward : goal.returns-in-Forward
returns-in-Forward g c = λ request binds.
    over_forward request c.args.outcome c.in-Forward.poa c.in-Forward.request c.reply_onward.result _ _ c.in-Forward.is c.reply_onward.ensures

pub returns : goal.returns
returns g c = λ request binds.
    over_starved request c.args.outcome _ c.starved_reply.result c.requires.other c.in_default.not-Forward
    (c.starved_reply.ensures request binds)
