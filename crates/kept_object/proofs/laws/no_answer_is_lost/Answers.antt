use Rattle.kept_object.proofs.CrashLemmas.{loses_none}
use Rattle.kept_object.proofs.laws.no_answer_is_lost.Goals as goal

pub returns : goal.returns
returns g c =
    let K = g.F.KeptFile in
    loses_none g.O.Recorder.step g.O.Recorder.keeps K.tells K.seen K.may_leave K.moment K.left_since g.met.F.KeptFile.only_now g.met.F.KeptFile.counts_now
