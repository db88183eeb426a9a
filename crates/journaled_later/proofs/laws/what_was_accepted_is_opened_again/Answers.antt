use Rattle.journaled_later.proofs.CrashLemmas.{reopens_accepted}
use Rattle.journaled_later.proofs.laws.what_was_accepted_is_opened_again.Goals as goal

pub returns : goal.returns
returns g c =
    let K = g.F.KeptFile in
    reopens_accepted K.tells K.seen K.may_leave K.moment K.left_since g.met.F.KeptFile.only_now g.met.F.KeptFile.counts_now
