use Rattle.std.proofs.Common.{inl, refl}
use Rattle.kept_file.specs.Crashes.{Replaces}
use Rattle.kept_file.proofs.MomentLemmas.{Run, steps_first, syncs_on}
use Rattle.journal_file.proofs.calls.replace_synced.Goals as goal

pub returns-in_err-replace-clause-any_moment : goal.returns-in_err-replace-clause-any_moment
returns-in_err-replace-clause-any_moment g c = λ told.
    let K = g.F.KeptFile in
    let old = c.args.file.now in
    let put = steps_first K.seen K.may_leave K.moment K.left_since (g.met.F.KeptFile.only_now told)
    (Replaces c.args.bytes.now) old c.replace.new.self (c.requires.kept told) (inl refl) (c.replace.ensures.crash told) (c.replace.ensures.time told) in
    put.leaves

pub returns-then-not-branch-clause-any_moment : goal.returns-then-not-branch-clause-any_moment
returns-then-not-branch-clause-any_moment g c = λ told.
    let K = g.F.KeptFile in
    let old = c.args.file.now in
    let put = steps_first K.seen K.may_leave K.moment K.left_since (g.met.F.KeptFile.only_now told)
    (Replaces c.args.bytes.now) old c.replace.new.self (c.requires.kept told) (inl refl) (c.replace.ensures.crash told) (c.replace.ensures.time told) in
    put.leaves

pub returns-in_err-sync-clause-any_moment : goal.returns-in_err-sync-clause-any_moment
returns-in_err-sync-clause-any_moment g c = λ told.
    let K = g.F.KeptFile in
    let old = c.args.file.now in
    let put = steps_first K.seen K.may_leave K.moment K.left_since (g.met.F.KeptFile.only_now told)
    (Replaces c.args.bytes.now) old c.replace.new.self (c.requires.kept told) (inl refl) (c.replace.ensures.crash told) (c.replace.ensures.time told) in
    let synced = syncs_on K.seen K.may_leave K.moment K.left_since (g.met.F.KeptFile.only_now told)
    (Replaces c.args.bytes.now (K.seen old)) old c.replace.new.self c.sync.new.self put (c.sync.ensures.crash told) (c.sync.ensures.time told) in
    synced.leaves

pub returns-clause-any_moment : goal.returns-clause-any_moment
returns-clause-any_moment g c = λ told.
    let K = g.F.KeptFile in
    let old = c.args.file.now in
    let put = steps_first K.seen K.may_leave K.moment K.left_since (g.met.F.KeptFile.only_now told)
    (Replaces c.args.bytes.now) old c.replace.new.self (c.requires.kept told) (inl refl) (c.replace.ensures.crash told) (c.replace.ensures.time told) in
    let synced = syncs_on K.seen K.may_leave K.moment K.left_since (g.met.F.KeptFile.only_now told)
    (Replaces c.args.bytes.now (K.seen old)) old c.replace.new.self c.sync.new.self put (c.sync.ensures.crash told) (c.sync.ensures.time told) in
    synced.leaves
