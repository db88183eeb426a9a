use Rattle.std.proofs.Common.{length}
use Rattle.kept_file.specs.Crashes.{TornWrite}
use Rattle.kept_file.proofs.MemoryLemmas.{torn_nothing}
use Rattle.kept_file.proofs.MomentLemmas.{Run, steps_first, syncs_on}
use Rattle.journal_file.proofs.calls.write_synced.Goals as goal

pub returns-in_err-write_at-clause-any_moment : goal.returns-in_err-write_at-clause-any_moment
returns-in_err-write_at-clause-any_moment g c = λ told.
    let K = g.F.KeptFile in
    let old = c.args.file.now in
    let n = length c.args.bytes.now in
    let torn = steps_first K.seen K.may_leave K.moment K.left_since (g.met.F.KeptFile.only_now told)
    (TornWrite c.args.at n) old c.write_at.new.self (c.requires.kept told) (torn_nothing c.args.at n (K.seen old)) (c.write_at.ensures.crash told) (c.write_at.ensures.time told) in
    torn.leaves

pub returns-clause-any_moment : goal.returns-clause-any_moment
returns-clause-any_moment g c = λ told.
    let K = g.F.KeptFile in
    let old = c.args.file.now in
    let n = length c.args.bytes.now in
    let torn = steps_first K.seen K.may_leave K.moment K.left_since (g.met.F.KeptFile.only_now told)
    (TornWrite c.args.at n) old c.write_at.new.self (c.requires.kept told) (torn_nothing c.args.at n (K.seen old)) (c.write_at.ensures.crash told) (c.write_at.ensures.time told) in
    let synced = syncs_on K.seen K.may_leave K.moment K.left_since (g.met.F.KeptFile.only_now told)
    (TornWrite c.args.at n (K.seen old)) old c.write_at.new.self c.sync.new.self torn (c.sync.ensures.crash told) (c.sync.ensures.time told) in
    synced.leaves
