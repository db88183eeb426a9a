use Rattle.std.proofs.Common.{◌≡◌, Result, Ok, Err, sym, ap, ◌∙◌, subst}
use Rattle.std.proofs.lemmas.Result.{err_from_is_err_and}
use Rattle.http_frames.specs.declared.fault.FrameFault.{FrameFault}
use Rattle.http_frames.specs.declared.fault.FrameFault.TheVariants.{ReadFault}
use Rattle.http_frames.specs.declared.inbox.Settled.{Settled}
use Rattle.http_frames.specs.Spans.{IsFrameAt}
use Rattle.http_frames.specs.Settled.{IfSettled}
use Rattle.http_frames.proofs.WaitLemmas.{taken}
use Rattle.http_frames.proofs.inbox.read_next.Goals as goal

pub returns-in_ok-frame-in-Whole-clause-message : goal.returns-in_ok-frame-in-Whole-clause-message
returns-in_ok-frame-in-Whole-clause-message g c =
    let body = c.settle.new.walked.body.items in
    let whole = subst (λ (s : Settled). IfSettled (Ok s) (IsFrameAt c.args.side c.settle.new.held c.settle.new.headers body)) c.in-Whole.is c.in_ok-spans.ensures.whole in
    taken c.args.side (g.S.Source.left c.args.src.now) (g.S.Source.left c.settle.new.src) c.args.held.now c.settle.new.held c.take_frame.new.held
    c.args.src.now c.settle.new.src c.settle.new.headers body c.in-Whole.spans c.in_ok-frame-in-Whole.frame
    c.settle.ensures.reads c.settle.ensures.needed whole c.in_ok-frame-in-Whole.ensures.frame c.in_ok-frame-in-Whole.ensures.ok

-- a fault that was handed on is the one that came
same_fault : {A B : Type 0} (r : Result A FrameFault) (x y : FrameFault) → r ≡ Err y → y ≡ x → r ≡ Err ReadFault
    → ◌≡◌ {A = Result B FrameFault} (Err x) (Err ReadFault)
same_fault r x y is same e = let read : y ≡ ReadFault = cc in ap Err (sym same ∙ read)

pub returns-in_err-spans-clause-waiting : goal.returns-in_err-spans-clause-waiting
returns-in_err-spans-clause-waiting g c =
    let p = err_from_is_err_and c.from_residual.result c.from_residual.ensures.1 in
    λ e. c.in_err-spans.ensures.waiting (same_fault c.from_residual.result c.in_err-spans.field-0.0 p.0 p.1 p.2 e)
