use Rattle.std.proofs.Common.{◌≡◌, ◌++◌, ◌∷◌, [], take}
use Rattle.kept_file.specs.Crashes.{OverwritesOrNot}
use Rattle.kept_file.proofs.MomentLemmas.{leaves_wider}
use Rattle.journal_file.specs.Gates.{KeepsBeforeOrAfter}
use Rattle.journal_file.proofs.GateLemmas.{whole_or_not}
use Rattle.journal_file.proofs.journal.put_batch.Goals as goal

pub returns-in-Ok-true-clause-any_moment : goal.returns-in-Ok-true-clause-any_moment
returns-in-Ok-true-clause-any_moment g c = λ told.
    let K = g.F.KeptFile in
    let old = K.seen c.args.file.now in
    let len = c.args.len in
    let batch = c.args.batch.now in
    leaves_wider K.moment K.left_since c.args.file.now c.put_whole.new.self
    (OverwritesOrNot len (batch ++ 10 ∷ []) old) (KeepsBeforeOrAfter (take len old) batch)
    (whole_or_not (take len old) old batch len (c.requires.len told) (c.requires.rest told))
    (c.in-Ok-true.ensures.any_moment told (λ other. absurd cc))

pub returns-in-Err-clause-any_moment : goal.returns-in-Err-clause-any_moment
returns-in-Err-clause-any_moment g c = λ told.
    let K = g.F.KeptFile in
    let old = K.seen c.args.file.now in
    let len = c.args.len in
    let batch = c.args.batch.now in
    leaves_wider K.moment K.left_since c.args.file.now c.put_whole.new.self
    (OverwritesOrNot len (batch ++ 10 ∷ []) old) (KeepsBeforeOrAfter (take len old) batch)
    (whole_or_not (take len old) old batch len (c.requires.len told) (c.requires.rest told))
    (c.in-Err.ensures.any_moment told (λ other. absurd cc))
