-- What the bytes held tell of the stream that they begin.
use Rattle.std.proofs.Common.{◌≡◌, ◌≢◌, ℕ, ◌+◌, ◌<◌, List, [], ◌++◌, length, take, drop, Option, None, Some, sym, ap, subst, ◌∙◌, arith, append_assoc}
use Rattle.std.proofs.lemmas.List.{length-append, append-nil, take-append-drop}
use Rattle.std.specs.Io.KnownBytes.{Consumes, IsAtEnd}
use Rattle.httparse.specs.declared.spans.HeaderSpan.{HeaderSpan}
use Rattle.http_frames.specs.declared.frame.Side.{Side}
use Rattle.http_frames.specs.declared.look.FrameSpans.{FrameSpans}
use Rattle.http_frames.specs.Stream.{BeginsWithFrame, HasNoFrame}
use Rattle.http_frames.specs.Spans.{frame_at, IsFrameAt, NeedsBytes, CanNotBegin}
use Rattle.http_frames.specs.Inbox.{Reads, HoldsNoFrame}

-- one read and then another
Consumes_trans : (a b c : Option (List ℕ)) (x y : List ℕ) → Consumes a b x → Consumes b c y → Consumes a c (x ++ y)
Consumes_trans None b c x y p q = tt
Consumes_trans (Some s) None c x y p q = absurd p
Consumes_trans (Some s) (Some t) None x y p q = absurd q
Consumes_trans (Some s) (Some t) (Some u) x y p q = p ∙ ap (λ v. x ++ v) q ∙ sym (append_assoc x y u)

pub Reads_trans : (a b c : Option (List ℕ)) (held mid now : List ℕ) → Reads a b held mid → Reads b c mid now → Reads a c held now
Reads_trans a b c held mid now p q = record {
  read = p.read ++ q.read;
  consumed = Consumes_trans a b c p.read q.read p.consumed q.consumed;
  held_is = q.held_is ∙ ap (λ v. v ++ q.read) p.held_is ∙ append_assoc held p.read q.read;
}

-- what is needed stays needed once more bytes came
pub NeedsBytes-more : (side : Side) (held read now : List ℕ) (need : ℕ) → NeedsBytes side held need → now ≡ held ++ read
    → NeedsBytes side now need
NeedsBytes-more side held read now need needs is = record {
  at_least = λ more text rest frame f e.
      needs.at_least (read ++ more) text rest frame f (sym (append_assoc held read more) ∙ ap (λ v. v ++ more) (sym is) ∙ e);
}

-- more bytes are needed than are held
pub none_within : (side : Side) (held : List ℕ) (need : ℕ) → NeedsBytes side held need → length held < need → HasNoFrame side held
none_within side held need needs short frame rest b =
    let least = needs.at_least [] b.bytes rest frame b.is_frame (append-nil held ∙ b.stream_is) in
    let whole : length held ≡ length b.bytes + length rest = ap length b.stream_is ∙ length-append b.bytes rest in
    absurd (omega arith)

-- a frame that was found stands at the front
pub frame_begins : (side : Side) (held body : List ℕ) (headers : List HeaderSpan) (spans : FrameSpans)
    → IsFrameAt side held headers body spans → BeginsWithFrame side held (frame_at held headers body spans) (drop spans.end held)
frame_begins side held body headers spans f = record {
  bytes = take spans.end held;
  is_frame = f.is_frame;
  stream_is = sym (take-append-drop spans.end held);
}

-- nothing more comes
pub none_at_end : (side : Side) (held : List ℕ) (left : Option (List ℕ)) → held ≢ [] → HasNoFrame side held → IsAtEnd left
    → HoldsNoFrame side held left
none_at_end side held None some none end = record { some = some; none = none; none_left = tt }
none_at_end side held (Some s) some none end =
    let all : held ++ s ≡ held = ap (λ v. held ++ v) end ∙ append-nil held in
    record { some = some; none = none; none_left = subst (λ (v : List ℕ). HasNoFrame side v) (sym all) none }

-- whatever comes, there is none
pub none_ever : (side : Side) (held : List ℕ) (left : Option (List ℕ)) → held ≢ [] → CanNotBegin side held
    → HoldsNoFrame side held left
none_ever side held None some never = record {
  some = some;
  none = λ frame rest b. never.none [] b.bytes rest frame b.is_frame (append-nil held ∙ b.stream_is);
  none_left = tt;
}
none_ever side held (Some s) some never = record {
  some = some;
  none = λ frame rest b. never.none [] b.bytes rest frame b.is_frame (append-nil held ∙ b.stream_is);
  none_left = λ frame rest b. never.none s b.bytes rest frame b.is_frame b.stream_is;
}
