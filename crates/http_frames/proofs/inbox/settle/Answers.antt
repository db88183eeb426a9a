use Rattle.std.proofs.Common.{◌≡◌, ◌≢◌, ℕ, List, [], Ok, Option, refl, ap, ◌∙◌, subst}
use Rattle.std.specs.Result.{is_ok}
use Rattle.std.specs.Io.KnownBytes.{IsAtEnd}
use Rattle.std.proofs.lemmas.Bool.{true≢false}
use Rattle.http_frames.specs.declared.frame.Side.{Side}
use Rattle.http_frames.specs.declared.inbox.Settled.{Settled}
use Rattle.http_frames.specs.declared.inbox.Settled.TheVariants.{Whole, End, Never}
use Rattle.http_frames.specs.Stream.{HasNoFrame}
use Rattle.http_frames.specs.Spans.{CanNotBegin, IsWalked}
use Rattle.http_frames.specs.Looks.{WaitsFor}
use Rattle.http_frames.specs.Inbox.{HoldsNoFrame}
use Rattle.http_frames.specs.Settled.{OnSettledNever}
use Rattle.http_frames.proofs.LookLemmas.{walked_more}
use Rattle.http_frames.proofs.InboxLemmas.{Reads_trans, none_at_end, none_ever}
use Rattle.http_frames.proofs.WaitLemmas.{needed_on, never_empty, waits_still}
use Rattle.http_frames.proofs.inbox.settle.Goals as goal

settled_none : (s : Settled) (side : Side) (held : List ℕ) (left : Option (List ℕ)) → (s ≡ Never → held ≢ []) → HasNoFrame side held
    → IsAtEnd left → OnSettledNever (Ok s) (HoldsNoFrame side held left)
settled_none (Whole spans) side held left some none end = tt
settled_none End side held left some none end = tt
settled_none Never side held left some none end = none_at_end side held left (some refl) none end

-- what a look says of the bytes held
never_held : (side : Side) (held : List ℕ) (left : Option (List ℕ)) → CanNotBegin side held → HoldsNoFrame side held left
never_held side held left never = none_ever side held left (never_empty side held never) never

pub returns-in-Never-clause-never : goal.returns-in-Never-clause-never
returns-in-Never-clause-never g c =
    let look = rw c.in-Never.is at c.in_ok-look.ensures.look in
    never_held c.args.side c.reads.held (g.S.Source.left c.reads.src) (subst (λ (v : List ℕ). CanNotBegin c.args.side v) c.bytes.ensures look)

pub returns-in_err-fill-in-Short-clause-reads : goal.returns-in_err-fill-in-Short-clause-reads
returns-in_err-fill-in-Short-clause-reads g c = Reads_trans _ _ _ _ _ _ c.reads.invariant.reads c.fill.ensures.reads

pub returns-in_err-fill-in-Short-clause-needed : goal.returns-in_err-fill-in-Short-clause-needed
returns-in_err-fill-in-Short-clause-needed g c =
    let waits = subst (λ (v : List ℕ). WaitsFor c.args.side v c.in-Short.need) c.bytes.ensures (rw c.in-Short.is at c.in_ok-look.ensures.look) in
    needed_on c.args.side c.args.held.now c.reads.held c.fill.new.self c.reads.invariant.reads.read c.args.src.now c.reads.src c.fill.new.src
    c.in-Short.need c.reads.invariant.reads.held_is c.reads.invariant.needed waits.stays waits.more_wanted c.fill.ensures.ends

pub returns-in_err-fill-in-Short-clause-waiting : goal.returns-in_err-fill-in-Short-clause-waiting
returns-in_err-fill-in-Short-clause-waiting g c =
    let waits = subst (λ (v : List ℕ). WaitsFor c.args.side v c.in-Short.need) c.bytes.ensures (rw c.in-Short.is at c.in_ok-look.ensures.look) in
    λ e. waits_still c.args.side c.reads.held c.fill.ensures.reads.read c.fill.new.self c.in-Short.need waits c.fill.ensures.reads.held_is
    c.in_err-fill-in-Short.ensures.err

pub returns-then-not-branch-clause-reads : goal.returns-then-not-branch-clause-reads
returns-then-not-branch-clause-reads g c = Reads_trans _ _ _ _ _ _ c.reads.invariant.reads c.fill.ensures.reads

pub returns-then-not-branch-clause-needed : goal.returns-then-not-branch-clause-needed
returns-then-not-branch-clause-needed g c =
    let waits = subst (λ (v : List ℕ). WaitsFor c.args.side v c.in-Short.need) c.bytes.ensures (rw c.in-Short.is at c.in_ok-look.ensures.look) in
    needed_on c.args.side c.args.held.now c.reads.held c.fill.new.self c.reads.invariant.reads.read c.args.src.now c.reads.src c.fill.new.src
    c.in-Short.need c.reads.invariant.reads.held_is c.reads.invariant.needed waits.stays waits.more_wanted c.fill.ensures.ends

pub returns-then-not-branch-clause-never : goal.returns-then-not-branch-clause-never
returns-then-not-branch-clause-never g c =
    let waits = subst (λ (v : List ℕ). WaitsFor c.args.side v c.in-Short.need) c.bytes.ensures (rw c.in-Short.is at c.in_ok-look.ensures.look) in
    let ended = c.fill.ensures.ended (c.in_ok-fill-in-Short.was ∙ ap Ok c.if-not-branch.true) in
    settled_none c.settled_at_end.result c.args.side c.fill.new.self (g.S.Source.left c.fill.new.src) c.settled_at_end.ensures.never
    (waits_still c.args.side c.reads.held c.fill.ensures.reads.read c.fill.new.self c.in-Short.need waits c.fill.ensures.reads.held_is ended.0) ended.1

pub reads-preserved : goal.reads-preserved
reads-preserved g c =
    let waits = subst (λ (v : List ℕ). WaitsFor c.args.side v c.in-Short.need) c.bytes.ensures (rw c.in-Short.is at c.in_ok-look.ensures.look) in
    let body = c.look_for_frame.new.walked.body.items in
    let head = c.look_for_frame.new.walked.head in
    let headers = c.look_for_frame.new.headers in
    let walked = subst (λ (v : List ℕ). IsWalked c.args.side v headers head c.look_for_frame.new.walked.at body) c.bytes.ensures
    c.look_for_frame.ensures.walked in
    record {
      reads = Reads_trans _ _ _ _ _ _ c.reads.invariant.reads c.fill.ensures.reads;
      needed = needed_on c.args.side c.args.held.now c.reads.held c.fill.new.self c.reads.invariant.reads.read c.args.src.now c.reads.src c.fill.new.src
          c.in-Short.need c.reads.invariant.reads.held_is c.reads.invariant.needed waits.stays waits.more_wanted c.fill.ensures.ends;
      faults = c.in_ok-fill-in-Short.ensures.faults.steady (λ e. true≢false (ap is_ok e)) ∙ c.reads.invariant.faults;
      beside = c.fill.ensures.beside ∙ c.reads.invariant.beside;
      walked = walked_more c.args.side c.reads.held c.fill.ensures.reads.read c.fill.new.self body headers head c.look_for_frame.new.walked.at
          c.fill.ensures.reads.held_is walked;
    }
