use Rattle.std.proofs.Common.{sym, subst}
use Rattle.journal_opening.specs.Opening.{HaltsBeginning}
use Rattle.journal_opening.proofs.PlayLemmas.{halts_by_snapshot, snapshot_first}
use Rattle.journal_opening.proofs.opening.begin_at_snapshot.Goals as goal

pub returns-in-Ok-clause-begun : goal.returns-in-Ok-clause-begun
returns-in-Ok-clause-begun g c =
    snapshot_first c.args.home c.in-Ok.opened.0 c.args.bytes.now c.in-Ok.opened.1 c.in-Ok.ensures.home c.in-Ok.ensures.opens c.in-Ok.ensures.end

pub returns-in-Err-clause-fault : goal.returns-in-Err-clause-fault
returns-in-Err-clause-fault g c =
    subst (HaltsBeginning c.args.home c.args.bytes.now) (sym c.snapshot_fault.ensures)
    (halts_by_snapshot c.args.home c.args.bytes.now c.in-Err.fault c.requires.header c.in-Err.ensures.refused)
