use Rattle.journaled_later.proofs.MachineLemmas.{turns_history}
use Rattle.journaled_later.proofs.laws.turns_are_histories.Goals as goal

pub returns : goal.returns
returns g c =
    let K = g.F.KeptFile in
    turns_history K.tells K.seen K.may_leave K.moment K.left_since
