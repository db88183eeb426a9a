use Rattle.std.proofs.Common.{◌≤◌, length, take, refl, sym, ap, ◌∙◌, subst}
use Rattle.journal_file.specs.Gates.{KeepsText, at_rest}
use Rattle.later_opening.specs.Making.{later_of}
use Rattle.journal_opening.specs.declared.fault.OpeningFault.TheVariants.{Failed}
use Rattle.journal_opening.proofs.CountLemmas.{counts_all, counts_last, counts_on, ok_no_err, passed_is, passed_match, passed_up}
use Rattle.journal_opening.proofs.FileLemmas.{stays_keeps}
use Rattle.later_opening.proofs.FileLemmas.{closes_keeps, keeps_opened, opened_refused}
use Rattle.later_opening.proofs.ReadingLemmas.{later_journal_opens}
use Rattle.later_opening.proofs.opening.play_later_back.Goals as goal

-- ---- its journal isn't played

pub returns-in_err-played-clause-refused : goal.returns-in_err-played-clause-refused
returns-in_err-played-clause-refused g c = λ told.
    passed_up c.from_residual.result c.in_err-played.field-0.0 _ c.from_residual.ensures.1 (c.in_err-played.ensures.refused told)

pub returns-in_err-played-clause-journal : goal.returns-in_err-played-clause-journal
returns-in_err-played-clause-journal g c = λ told base acts text journal keeps.
    let K = g.F.KeptFile in
    passed_match c.from_residual.result c.in_err-played.field-0.0 _ _ c.from_residual.ensures.1
    ((later_journal_opens c.args.home base acts text (K.seen c.args.file.now) journal keeps).refuses c.in_err-played.field-0.0 (c.in_err-played.ensures.refused told))

pub returns-in_err-played-clause-stays : goal.returns-in_err-played-clause-stays
returns-in_err-played-clause-stays g c = λ told.
    passed_up c.from_residual.result c.in_err-played.field-0.0 _ c.from_residual.ensures.1 (λ other. c.play_later_file.ensures.stays told)

pub returns-in_err-played-clause-any_moment : goal.returns-in_err-played-clause-any_moment
returns-in_err-played-clause-any_moment g c = λ told base acts text journal keeps.
    let K = g.F.KeptFile in
    stays_keeps K.seen K.may_leave K.moment K.left_since c.args.file.now c.play_later_file.new.file text (c.play_later_file.ensures.stays told) keeps

-- ---- it could not be made ready

pub returns-in_err-close_behind-clause-refused : goal.returns-in_err-close_behind-clause-refused
returns-in_err-close_behind-clause-refused g c = λ told.
    passed_up c.from_residual-in_err-close_behind.result Failed _ c.from_residual-in_err-close_behind.ensures.1 tt

pub returns-in_err-close_behind-clause-journal : goal.returns-in_err-close_behind-clause-journal
returns-in_err-close_behind-clause-journal g c = λ told base acts text journal keeps.
    passed_match c.from_residual-in_err-close_behind.result Failed _ _ c.from_residual-in_err-close_behind.ensures.1 tt

pub returns-in_err-close_behind-clause-stays : goal.returns-in_err-close_behind-clause-stays
returns-in_err-close_behind-clause-stays g c = λ told.
    passed_up c.from_residual-in_err-close_behind.result Failed _ c.from_residual-in_err-close_behind.ensures.1 (λ other. absurd (other refl))

-- ---- the count of faults

pub returns-in_err-played-clause-faults : goal.returns-in_err-played-clause-faults
returns-in_err-played-clause-faults g c =
    counts_on c.play_later_file.result c.from_residual.result _ c.in_err-played.field-0.0 _ _ c.in_err-played.was
    (passed_is c.from_residual.result c.in_err-played.field-0.0 c.from_residual.ensures.1) c.play_later_file.ensures.faults

pub returns-in_err-close_behind-clause-faults : goal.returns-in_err-close_behind-clause-faults
returns-in_err-close_behind-clause-faults g c =
    counts_last c.play_later_file.result c.close_behind.result c.from_residual-in_err-close_behind.result _ c.in_err-close_behind.field-0.0 _ _ _
    (ok_no_err _ _ _ c.in_ok-played.was) c.in_err-close_behind.was
    (passed_is c.from_residual-in_err-close_behind.result _ c.from_residual-in_err-close_behind.ensures.1) c.play_later_file.ensures.faults c.close_behind.ensures.faults

pub returns-clause-faults : goal.returns-clause-faults
returns-clause-faults g c =
    counts_all c.play_later_file.result c.close_behind.result _ _ _ _ _ _ (ok_no_err _ _ _ c.in_ok-played.was) c.in_ok-close_behind.was
    (ok_no_err _ _ _ refl) c.play_later_file.ensures.faults c.close_behind.ensures.faults

-- ---- it is made ready

pub close_behind-requires-clause-within : goal.close_behind-requires-clause-within
close_behind-requires-clause-within g c = λ told.
    let p = c.in_ok-played.played in
    subst (λ b. p.len ≤ length b) (sym (c.play_later_file.ensures.stays told).same) (c.in_ok-played.ensures.opens told).within

pub close_behind-requires-clause-text : goal.close_behind-requires-clause-text
close_behind-requires-clause-text g c = λ told.
    let p = c.in_ok-played.played in
    subst (λ b. KeepsText (take p.len b) b) (sym (c.play_later_file.ensures.stays told).same)
    (keeps_opened c.args.home (g.F.KeptFile.seen c.args.file.now) p.len (later_of p.entity p.requests) (c.in_ok-played.ensures.opens told))

pub close_behind-requires-clause-kept : goal.close_behind-requires-clause-kept
close_behind-requires-clause-kept g c = λ told. (c.play_later_file.ensures.stays told).kept

pub returns-in_err-close_behind-clause-any_moment : goal.returns-in_err-close_behind-clause-any_moment
returns-in_err-close_behind-clause-any_moment g c = λ told base acts text journal keeps.
    let K = g.F.KeptFile in
    let p = c.in_ok-played.played in
    closes_keeps K.seen K.may_leave K.moment K.left_since c.args.file.now c.play_later_file.new.file c.close_behind.new.file
    c.args.home base acts text p.len (later_of p.entity p.requests) (c.play_later_file.ensures.stays told) (c.in_ok-played.ensures.opens told) journal keeps (c.close_behind.ensures.any_moment told)

pub returns-clause-any_moment : goal.returns-clause-any_moment
returns-clause-any_moment g c = λ told base acts text journal keeps.
    let K = g.F.KeptFile in
    let p = c.in_ok-played.played in
    closes_keeps K.seen K.may_leave K.moment K.left_since c.args.file.now c.play_later_file.new.file c.close_behind.new.file
    c.args.home base acts text p.len (later_of p.entity p.requests) (c.play_later_file.ensures.stays told) (c.in_ok-played.ensures.opens told) journal keeps (c.close_behind.ensures.any_moment told)

pub returns-clause-opens : goal.returns-clause-opens
returns-clause-opens g c = λ told. c.in_ok-played.ensures.opens told

pub returns-clause-front : goal.returns-clause-front
returns-clause-front g c = λ told. c.in_ok-played.ensures.front told

pub returns-clause-journal : goal.returns-clause-journal
returns-clause-journal g c = λ told base acts text journal keeps.
    let K = g.F.KeptFile in
    let p = c.in_ok-played.played in
    (later_journal_opens c.args.home base acts text (K.seen c.args.file.now) journal keeps).opens p.len (later_of p.entity p.requests) (c.in_ok-played.ensures.opens told)

pub returns-clause-ready : goal.returns-clause-ready
returns-clause-ready g c = λ told.
    let p = c.in_ok-played.played in
    c.in_ok-close_behind.ensures.rest told ∙ ap (λ b. at_rest (take p.len b)) (c.play_later_file.ensures.stays told).same

-- ---- what is no journal of this home

pub returns-in_err-played-clause-others : goal.returns-in_err-played-clause-others
returns-in_err-played-clause-others g c = λ told fault strange refused. c.play_later_file.ensures.stays told

pub returns-in_err-close_behind-clause-others : goal.returns-in_err-close_behind-clause-others
returns-in_err-close_behind-clause-others g c = λ told fault strange refused.
    let p = c.in_ok-played.played in
    absurd (strange (opened_refused c.args.home (g.F.KeptFile.seen c.args.file.now) p.len (later_of p.entity p.requests) fault (c.in_ok-played.ensures.opens told) refused))

pub returns-clause-others : goal.returns-clause-others
returns-clause-others g c = λ told fault strange refused.
    let p = c.in_ok-played.played in
    absurd (strange (opened_refused c.args.home (g.F.KeptFile.seen c.args.file.now) p.len (later_of p.entity p.requests) fault (c.in_ok-played.ensures.opens told) refused))
