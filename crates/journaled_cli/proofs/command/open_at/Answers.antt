use Rattle.std.proofs.Common.{IfOk, subst}
use Rattle.std.specs.Prelude.{IfErr}
use Rattle.resource_model.specs.Home.{HomeData}
use Rattle.journal_opening.specs.Opening.{IsRefused}
use Rattle.journal_opening.proofs.FileLemmas.{stays_here}
use Rattle.journaled_entity.specs.Opened.{OpensAt}
use Rattle.journaled_cli.proofs.command.open_at.Goals as goal

-- memory ran out before the file was read
pub returns-in_default-clause-stays : goal.returns-in_default-clause-stays
returns-in_default-clause-stays g c = λ told other.
    let K = g.F.KeptFile in
    stays_here K.seen K.may_leave K.moment K.left_since (g.met.F.KeptFile.only_now told) c.args.file (c.requires.kept told)

-- the home that was opened is the copy of this one
pub returns-clause-opens : goal.returns-clause-opens
returns-clause-opens g c =
    let K = g.F.KeptFile in
    subst (λ (h : HomeData). IfOk c.open_kept.result (OpensAt K.tells K.seen K.may_leave h c.args.file)) c.in-Ok.ensures c.open_kept.ensures.opens

pub returns-clause-refused : goal.returns-clause-refused
returns-clause-refused g c = λ told.
    let K = g.F.KeptFile in
    subst (λ (h : HomeData). IfErr c.open_kept.result (λ u. IsRefused h (K.seen c.args.file) u.fault)) c.in-Ok.ensures (c.open_kept.ensures.refused told)
