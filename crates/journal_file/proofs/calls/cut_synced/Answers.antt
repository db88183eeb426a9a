use Rattle.kept_file.specs.Crashes.{TornCut}
use Rattle.kept_file.proofs.MemoryLemmas.{cut_nothing}
use Rattle.kept_file.proofs.MomentLemmas.{Run, steps_first, syncs_on}
use Rattle.journal_file.proofs.calls.cut_synced.Goals as goal

pub returns-in_err-cut-clause-any_moment : goal.returns-in_err-cut-clause-any_moment
returns-in_err-cut-clause-any_moment g c = λ told.
    let K = g.F.KeptFile in
    let old = c.args.file.now in
    let torn = steps_first K.seen K.may_leave K.moment K.left_since (g.met.F.KeptFile.only_now told)
    (TornCut c.args.len) old c.cut.new.self (c.requires.kept told) (cut_nothing c.args.len (K.seen old)) (c.cut.ensures.crash told) (c.cut.ensures.time told) in
    torn.leaves

pub returns-clause-any_moment : goal.returns-clause-any_moment
returns-clause-any_moment g c = λ told.
    let K = g.F.KeptFile in
    let old = c.args.file.now in
    let torn = steps_first K.seen K.may_leave K.moment K.left_since (g.met.F.KeptFile.only_now told)
    (TornCut c.args.len) old c.cut.new.self (c.requires.kept told) (cut_nothing c.args.len (K.seen old)) (c.cut.ensures.crash told) (c.cut.ensures.time told) in
    let synced = syncs_on K.seen K.may_leave K.moment K.left_since (g.met.F.KeptFile.only_now told)
    (TornCut c.args.len (K.seen old)) old c.cut.new.self c.sync.new.self torn (c.sync.ensures.crash told) (c.sync.ensures.time told) in
    synced.leaves
