use Rattle.std.proofs.Common.{sym, subst}
use Rattle.journal_opening.specs.Opening.{BeginsAs}
use Rattle.journal_opening.proofs.PlayLemmas.{header_first, told_none}
use Rattle.journal_opening.proofs.opening.begin.Goals as goal

-- a header
pub returns-in_ok-entity-in-Ok-clause-begun : goal.returns-in_ok-entity-in-Ok-clause-begun
returns-in_ok-entity-in-Ok-clause-begun g c =
    subst (BeginsAs c.args.home c.args.bytes.now c.in-Ok.len) (sym c.in_ok-entity-in-Ok.ensures)
    (header_first c.args.home c.in-Ok.opened c.args.bytes.now c.in-Ok.len c.in-Ok.ensures.opened c.in-Ok.ensures.len c.in-Ok.ensures.within)

-- none
pub begin_at_snapshot-requires-clause-header : goal.begin_at_snapshot-requires-clause-header
begin_at_snapshot-requires-clause-header g c =
    told_none c.args.home c.args.bytes.now (rw c.in-Err-NoHeader.field-0-is at c.in-Err-NoHeader.ensures.opened)
