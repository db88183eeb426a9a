use Rattle.journal_opening.proofs.FileLemmas.{stays_read}
use Rattle.journal_opening.proofs.opening.read_bytes.Goals as goal

pub returns-in-Ok-clause-stays : goal.returns-in-Ok-clause-stays
returns-in-Ok-clause-stays g c = λ told.
    let K = g.F.KeptFile in
    stays_read K.seen K.may_leave K.moment K.left_since (g.met.F.KeptFile.only_now told) c.args.file.now c.read.new.self
    (c.requires told) (c.read.ensures.seen told) (c.read.ensures.crash told) (c.read.ensures.time told)
