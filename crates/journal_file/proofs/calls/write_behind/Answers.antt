use Rattle.std.proofs.Common.{◌≡◌, ◌≤◌, ◌+◌, length, sym, arith}
use Rattle.kept_file.specs.Crashes.{TornWrite}
use Rattle.kept_file.proofs.MomentLemmas.{Run, begins, steps_on, syncs_on}
use Rattle.journal_file.specs.Gates.{Begins}
use Rattle.journal_file.proofs.GateLemmas.{begins_itself, torn_begins}
use Rattle.journal_file.proofs.calls.write_behind.Goals as goal

pub returns-in_err-write_at-clause-any_moment : goal.returns-in_err-write_at-clause-any_moment
returns-in_err-write_at-clause-any_moment g c = λ told.
    let K = g.F.KeptFile in
    let old = c.args.file.now in
    let P = Begins (K.seen old) in
    let start = begins K.seen K.may_leave K.moment K.left_since (g.met.F.KeptFile.only_now told) P old (c.requires.kept told) (begins_itself (K.seen old)) in
    let within : length (K.seen old) ≤ c.args.end = omega (arith, c.requires.at_end told) in
    let n = length c.args.bytes.now in
    let torn = steps_on K.seen K.may_leave K.moment K.left_since (g.met.F.KeptFile.only_now told) P (TornWrite c.args.end n) old old c.write_at.new.self start
    (torn_begins (K.seen old) c.args.end n within) (c.write_at.ensures.crash told) (c.write_at.ensures.time told) in
    torn.leaves

pub returns-in_err-write_at-2-clause-any_moment : goal.returns-in_err-write_at-2-clause-any_moment
returns-in_err-write_at-2-clause-any_moment g c = λ told.
    let K = g.F.KeptFile in
    let old = c.args.file.now in
    let P = Begins (K.seen old) in
    let start = begins K.seen K.may_leave K.moment K.left_since (g.met.F.KeptFile.only_now told) P old (c.requires.kept told) (begins_itself (K.seen old)) in
    let within : length (K.seen old) ≤ c.args.end = omega (arith, c.requires.at_end told) in
    let n = length c.args.bytes.now in
    let torn = steps_on K.seen K.may_leave K.moment K.left_since (g.met.F.KeptFile.only_now told) P (TornWrite c.args.end n) old old c.write_at.new.self start
    (torn_begins (K.seen old) c.args.end n within) (c.write_at.ensures.crash told) (c.write_at.ensures.time told) in
    let behind : length (K.seen old) ≤ c.args.end + n = omega (arith, within) in
    let gated = steps_on K.seen K.may_leave K.moment K.left_since (g.met.F.KeptFile.only_now told) P (TornWrite (c.args.end + n) 1) old c.write_at.new.self c.write_at-2.new.self torn
    (torn_begins (K.seen old) (c.args.end + n) 1 behind) (c.write_at-2.ensures.crash told) (c.write_at-2.ensures.time told) in
    gated.leaves

pub returns-clause-any_moment : goal.returns-clause-any_moment
returns-clause-any_moment g c = λ told.
    let K = g.F.KeptFile in
    let old = c.args.file.now in
    let P = Begins (K.seen old) in
    let start = begins K.seen K.may_leave K.moment K.left_since (g.met.F.KeptFile.only_now told) P old (c.requires.kept told) (begins_itself (K.seen old)) in
    let within : length (K.seen old) ≤ c.args.end = omega (arith, c.requires.at_end told) in
    let n = length c.args.bytes.now in
    let torn = steps_on K.seen K.may_leave K.moment K.left_since (g.met.F.KeptFile.only_now told) P (TornWrite c.args.end n) old old c.write_at.new.self start
    (torn_begins (K.seen old) c.args.end n within) (c.write_at.ensures.crash told) (c.write_at.ensures.time told) in
    let behind : length (K.seen old) ≤ c.args.end + n = omega (arith, within) in
    let gated = steps_on K.seen K.may_leave K.moment K.left_since (g.met.F.KeptFile.only_now told) P (TornWrite (c.args.end + n) 1) old c.write_at.new.self c.write_at-2.new.self torn
    (torn_begins (K.seen old) (c.args.end + n) 1 behind) (c.write_at-2.ensures.crash told) (c.write_at-2.ensures.time told) in
    let synced = syncs_on K.seen K.may_leave K.moment K.left_since (g.met.F.KeptFile.only_now told) P old c.write_at-2.new.self c.sync.new.self gated (c.sync.ensures.crash told) (c.sync.ensures.time told) in
    synced.leaves
