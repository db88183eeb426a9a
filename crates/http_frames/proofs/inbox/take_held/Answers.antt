use Rattle.std.proofs.Common.{◌≡◌, ℕ, List, [], refl, sym, append-nil, inl, subst}
use Rattle.httparse.specs.declared.spans.HeaderSpan.{HeaderSpan}
use Rattle.http_frames.specs.declared.frame.Side.{Side}
use Rattle.http_frames.specs.declared.look.FrameStatus.{FrameStatus}
use Rattle.http_frames.specs.declared.look.FrameStatus.TheVariants.{Short}
use Rattle.http_frames.specs.Looks.{IsLook}
use Rattle.http_frames.specs.Spans.{CanNotBegin, IsFrameAt}
use Rattle.http_frames.specs.Stream.{HasNoFrame}
use Rattle.http_frames.proofs.AnswerLemmas.{reads_nothing}
use Rattle.http_frames.proofs.InboxLemmas.{none_ever}
use Rattle.http_frames.proofs.WaitLemmas.{never_empty, taken, waits_still}
use Rattle.http_frames.proofs.inbox.take_held.Goals as goal

pub returns-in_ok-frame-in-Whole-clause-message : goal.returns-in_ok-frame-in-Whole-clause-message
returns-in_ok-frame-in-Whole-clause-message c =
    let held = c.args.held.now in
    let headers = c.look_for_frame.new.headers in
    let body = c.look_for_frame.new.walked.body.items in
    let look = rw c.in-Whole.is at c.in_ok-look.ensures.look in
    let whole = subst (λ (v : List ℕ). IsFrameAt c.args.side v headers body c.in-Whole.spans) c.bytes.ensures look in
    λ left. taken c.args.side left left held held c.take_frame.new.held held held headers body c.in-Whole.spans
    c.in_ok-frame-in-Whole.frame (reads_nothing left held held refl) (inl (refl, refl)) whole
    c.in_ok-frame-in-Whole.ensures.frame c.in_ok-frame-in-Whole.ensures.ok

pub returns-in-Never-clause-no_frame : goal.returns-in-Never-clause-no_frame
returns-in-Never-clause-no_frame c =
    let held = c.args.held.now in
    let look = rw c.in-Never.is at c.in_ok-look.ensures.look in
    let never = subst (λ (v : List ℕ). CanNotBegin c.args.side v) c.bytes.ensures look in
    λ e left. none_ever c.args.side held left (never_empty c.args.side held never) never

-- where the look waits for more, none stands there
short_none : (side : Side) (bytes body : List ℕ) (headers : List HeaderSpan) (status : FrameStatus) (need : ℕ) → status ≡ Short need
    → IsLook side bytes headers body status → HasNoFrame side bytes
short_none side bytes body headers status need is look =
    let waits = subst (λ (s : FrameStatus). IsLook side bytes headers body s) is look in
    waits_still side bytes [] bytes need waits (sym (append-nil bytes)) waits.more_wanted

pub returns-in-Short-clause-none : goal.returns-in-Short-clause-none
returns-in-Short-clause-none c =
    let none = short_none c.args.side _ _ _ _ _ c.in-Short.is c.in_ok-look.ensures.look in
    λ e. (refl, subst (λ (v : List ℕ). HasNoFrame c.args.side v) c.bytes.ensures none)
