use Rattle.journal_opening.proofs.FileLemmas.{stays_here, stays_read}
use Rattle.journal_opening.proofs.aside.set_aside.Goals as goal

pub returns-then-bytes-len-lt2-clause-stays : goal.returns-then-bytes-len-lt2-clause-stays
returns-then-bytes-len-lt2-clause-stays g c = λ told.
    let K = g.F.KeptFile in
    stays_here K.seen K.may_leave K.moment K.left_since (g.met.F.KeptFile.only_now told) c.args.file.now (c.requires.kept told)

pub returns-in_err-what-clause-stays : goal.returns-in_err-what-clause-stays
returns-in_err-what-clause-stays g c = λ told.
    let K = g.F.KeptFile in
    stays_here K.seen K.may_leave K.moment K.left_since (g.met.F.KeptFile.only_now told) c.args.file.now (c.requires.kept told)

pub returns-in-Ok-clause-stays : goal.returns-in-Ok-clause-stays
returns-in-Ok-clause-stays g c = λ told.
    let K = g.F.KeptFile in
    stays_read K.seen K.may_leave K.moment K.left_since (g.met.F.KeptFile.only_now told) c.args.file.now c.set_aside.new.self
    (c.requires.kept told) (c.set_aside.ensures.seen told) (c.set_aside.ensures.crash told) (c.set_aside.ensures.time told)

pub returns-clause-stays : goal.returns-clause-stays
returns-clause-stays g c = λ told.
    let K = g.F.KeptFile in
    stays_read K.seen K.may_leave K.moment K.left_since (g.met.F.KeptFile.only_now told) c.args.file.now c.set_aside.new.self
    (c.requires.kept told) (c.set_aside.ensures.seen told) (c.set_aside.ensures.crash told) (c.set_aside.ensures.time told)
