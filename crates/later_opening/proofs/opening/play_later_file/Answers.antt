use Rattle.std.proofs.Common.{◌∙◌, ◌≤◌, length, subst, sym, refl}
use Rattle.std.specs.Prelude.{IfErr}
use Rattle.journal_opening.specs.Opening.{HasFront}
use Rattle.later_opening.specs.Making.{later_of}
use Rattle.later_opening.specs.Opening.{IsRefusedLater, OpensLaterAs}
use Rattle.journal_opening.proofs.CountLemmas.{counts_none, counts_on, counts_then, ok_no_err, passed_is, passed_up}
use Rattle.journal_opening.proofs.FileLemmas.{stays_then}
use Rattle.later_opening.proofs.PlayLemmas.{refused_by_machine}
use Rattle.later_opening.proofs.opening.play_later_file.Goals as goal

-- ---- the file couldn't be read

pub returns-in_err-bytes-clause-refused : goal.returns-in_err-bytes-clause-refused
returns-in_err-bytes-clause-refused g c = λ told.
    passed_up c.from_residual.result c.in_err-bytes.field-0.0 _ c.from_residual.ensures.1
    (refused_by_machine c.args.home (g.F.KeptFile.seen c.args.file.now) c.in_err-bytes.field-0.0 c.in_err-bytes.ensures.fault)

pub returns-in_err-bytes-clause-faults : goal.returns-in_err-bytes-clause-faults
returns-in_err-bytes-clause-faults g c =
    counts_on c.read_bytes.result c.from_residual.result _ c.in_err-bytes.field-0.0 _ _ c.in_err-bytes.was
    (passed_is c.from_residual.result c.in_err-bytes.field-0.0 c.from_residual.ensures.1) c.read_bytes.ensures.faults

-- ---- its journal isn't played

pub returns-in_err-played-clause-refused : goal.returns-in_err-played-clause-refused
returns-in_err-played-clause-refused g c = λ told.
    subst (λ b. IfErr c.from_residual-in_err-played.result (IsRefusedLater c.args.home b)) (c.deref.ensures.value ∙ c.in_ok-bytes.ensures.bytes told)
    (passed_up c.from_residual-in_err-played.result c.in_err-played.field-0.0 _ c.from_residual-in_err-played.ensures.1 c.in_err-played.ensures.refused)

pub returns-in_err-played-clause-faults : goal.returns-in_err-played-clause-faults
returns-in_err-played-clause-faults g c =
    counts_none c.read_bytes.result c.from_residual-in_err-played.result _ _ _ (ok_no_err _ _ _ c.in_ok-bytes.was)
    (λ is. c.play_bytes.ensures.other (c.in_err-played.was ∙ sym (passed_is c.from_residual-in_err-played.result c.in_err-played.field-0.0 c.from_residual-in_err-played.ensures.1) ∙ is))
    c.read_bytes.ensures.faults

-- ---- it was played

pub set_aside-requires-clause-within : goal.set_aside-requires-clause-within
set_aside-requires-clause-within g c =
    subst (λ b. c.in_ok-played.played.len ≤ length b) (c.deref.ensures.value ∙ sym c.deref-2.ensures.value) c.in_ok-played.ensures.opens.within

pub set_aside-requires-clause-kept : goal.set_aside-requires-clause-kept
set_aside-requires-clause-kept g c = λ told. (c.read_bytes.ensures.stays told).kept

pub returns-in_err-set_aside-clause-refused : goal.returns-in_err-set_aside-clause-refused
returns-in_err-set_aside-clause-refused g c = λ told.
    passed_up c.from_residual-in_err-set_aside.result c.in_err-set_aside.field-0.0 _ c.from_residual-in_err-set_aside.ensures.1
    (refused_by_machine c.args.home (g.F.KeptFile.seen c.args.file.now) c.in_err-set_aside.field-0.0 c.in_err-set_aside.ensures.fault)

pub returns-in_err-set_aside-clause-stays : goal.returns-in_err-set_aside-clause-stays
returns-in_err-set_aside-clause-stays g c = λ told.
    let K = g.F.KeptFile in
    stays_then K.seen K.may_leave K.moment K.left_since c.args.file.now c.read_bytes.new.file c.set_aside.new.file
    (c.read_bytes.ensures.stays told) (c.set_aside.ensures.stays told)

pub returns-in_err-set_aside-clause-faults : goal.returns-in_err-set_aside-clause-faults
returns-in_err-set_aside-clause-faults g c =
    counts_then c.read_bytes.result c.from_residual-in_err-set_aside.result _ _ _ _ (ok_no_err _ _ _ c.in_ok-bytes.was) c.read_bytes.ensures.faults
    (counts_on c.set_aside.result c.from_residual-in_err-set_aside.result _ c.in_err-set_aside.field-0.0 _ _ c.in_err-set_aside.was
    (passed_is c.from_residual-in_err-set_aside.result c.in_err-set_aside.field-0.0 c.from_residual-in_err-set_aside.ensures.1) c.set_aside.ensures.faults)

pub returns-clause-opens : goal.returns-clause-opens
returns-clause-opens g c = λ told.
    let p = c.in_ok-played.played in
    subst (λ b. OpensLaterAs c.args.home b p.len (later_of p.entity p.requests)) (c.deref.ensures.value ∙ c.in_ok-bytes.ensures.bytes told) c.in_ok-played.ensures.opens

pub returns-clause-front : goal.returns-clause-front
returns-clause-front g c = λ told.
    let p = c.in_ok-played.played in
    subst (λ b. HasFront c.args.home b p.front) (c.deref.ensures.value ∙ c.in_ok-bytes.ensures.bytes told) c.in_ok-played.ensures.front

pub returns-clause-stays : goal.returns-clause-stays
returns-clause-stays g c = λ told.
    let K = g.F.KeptFile in
    stays_then K.seen K.may_leave K.moment K.left_since c.args.file.now c.read_bytes.new.file c.set_aside.new.file
    (c.read_bytes.ensures.stays told) (c.set_aside.ensures.stays told)

pub returns-clause-faults : goal.returns-clause-faults
returns-clause-faults g c =
    counts_then c.read_bytes.result _ _ _ _ _ (ok_no_err _ _ _ c.in_ok-bytes.was) c.read_bytes.ensures.faults
    (counts_none c.set_aside.result _ _ _ _ (ok_no_err _ _ _ c.in_ok-set_aside.was) (ok_no_err _ _ _ refl) c.set_aside.ensures.faults)
