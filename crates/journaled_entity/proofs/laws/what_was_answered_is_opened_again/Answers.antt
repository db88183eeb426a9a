use Rattle.journaled_entity.proofs.CrashLemmas.{reopens_answered}
use Rattle.journaled_entity.proofs.laws.what_was_answered_is_opened_again.Goals as goal

pub returns : goal.returns
returns g c =
    let K = g.F.KeptFile in
    reopens_answered K.tells K.seen K.may_leave K.moment K.left_since g.met.F.KeptFile.only_now g.met.F.KeptFile.counts_now
