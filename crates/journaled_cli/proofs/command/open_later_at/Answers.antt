use Rattle.std.proofs.Common.{IfOk, subst}
use Rattle.std.specs.Prelude.{IfErr}
use Rattle.resource_model.specs.Home.{HomeData}
use Rattle.later_opening.specs.Opening.{IsRefusedLater}
use Rattle.journal_opening.proofs.FileLemmas.{stays_here}
use Rattle.journaled_later.specs.Opened.{OpensLaterAt}
use Rattle.journaled_cli.proofs.command.open_later_at.Goals as goal

-- memory ran out before the file was read
pub returns-in_default-clause-stays : goal.returns-in_default-clause-stays
returns-in_default-clause-stays g c = λ told other.
    let K = g.F.KeptFile in
    stays_here K.seen K.may_leave K.moment K.left_since (g.met.F.KeptFile.only_now told) c.args.file (c.requires.kept told)

-- the home that was opened is the copy of this one
pub returns-clause-opens : goal.returns-clause-opens
returns-clause-opens g c =
    let K = g.F.KeptFile in
    subst (λ (h : HomeData). IfOk c.open_later.result (OpensLaterAt K.tells K.seen K.may_leave h c.args.file)) c.in-Ok.ensures c.open_later.ensures.opens

pub returns-clause-refused : goal.returns-clause-refused
returns-clause-refused g c = λ told.
    let K = g.F.KeptFile in
    subst (λ (h : HomeData). IfErr c.open_later.result (λ u. IsRefusedLater h (K.seen c.args.file) u.fault)) c.in-Ok.ensures (c.open_later.ensures.refused told)
