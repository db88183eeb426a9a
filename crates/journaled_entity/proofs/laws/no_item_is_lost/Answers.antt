use Rattle.journaled_entity.proofs.RunLemmas.{no_item_lost}
use Rattle.journaled_entity.proofs.laws.no_item_is_lost.Goals as goal

pub returns : goal.returns
returns g c =
    let K = g.F.KeptFile in
    no_item_lost K.tells K.seen K.may_leave K.moment K.left_since
