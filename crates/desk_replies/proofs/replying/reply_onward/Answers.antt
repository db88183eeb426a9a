use Rattle.desk_replies.proofs.RepliesLemmas.{onward_ok, onward_starved}
use Rattle.desk_replies.proofs.replying.reply_onward.Goals as goal

pub returns-in-Ok : goal.returns-in-Ok
returns-in-Ok g c =
    onward_ok c.entries.result.now c.args.poa.now c.args.request c.in-Ok.reply _ _ c.entries.ensures.text c.in-Ok.ensures

pub returns-in-Err : goal.returns-in-Err
returns-in-Err g c =
    onward_starved c.entries.result.now c.args.poa.now c.args.request c.uncarried_reply.result _ _ c.entries.ensures.text c.in-Err.ensures
    c.uncarried_reply.ensures
