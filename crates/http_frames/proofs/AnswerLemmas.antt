-- What a call answers, by the one list of frames that begin the stream.
use Rattle.std.proofs.Common.{◌≡◌, ◌≢◌, ℕ, ◌<◌, Bool, true, false, length, length-append, List, [], ◌∷◌, ◌++◌, Option, None, Some, Result, Ok, Err, refl, sym, ap, subst, ◌∙◌, arith, append_assoc, append-nil, inl}
use Rattle.std.proofs.lemmas.Bool.{false≢true}
use Rattle.std.specs.Io.KnownBytes.{Consumes, IsAtEnd}
use Rattle.http_frames.specs.declared.frame.Side.{Side}
use Rattle.http_frames.specs.declared.frame.Frame.{Frame}
use Rattle.http_frames.specs.declared.frame.Next.{Next}
use Rattle.http_frames.specs.declared.frame.Next.TheVariants.{Message, End}
use Rattle.http_frames.specs.declared.fault.FrameFault.{FrameFault}
use Rattle.http_frames.specs.declared.fault.FrameFault.TheVariants.{NoFrame, ReadFault, OutOfMemory}
use Rattle.http_frames.specs.Stream.{BeginsWithFrame, BeginsWithFrames, HasNoFrame, Frames}
use Rattle.http_frames.specs.Inbox.{Intake, Reads, GivesFrame, GivesAsNeeded, HoldsNoFrame, IfHeld, IfMessage, UnlessMessage, AnswersNext, GivesNext, TakesNext, is_refusal, stream_of, most_held}
use Rattle.http_frames.specs.Waiting.{piece_limit, ReadsAsNeeded}
use Rattle.http_frames.proofs.FrameLemmas.{BeginsWith_unique, BeginsWithFrame-append}
use Rattle.http_frames.proofs.LookLemmas.{some_bytes}
use Rattle.http_frames.proofs.InboxLemmas.{none_within}
use Rattle.http_frames.proofs.WaitLemmas.{little_left, stays_small}

-- what was read moved from the source to those held
same_stream : (s t held now : List ℕ) → (r : Reads (Some s) (Some t) held now) → held ++ s ≡ now ++ t
same_stream s t held now r =
    ap (λ v. held ++ v) r.consumed ∙ sym (append_assoc held r.read t) ∙ ap (λ v. v ++ t) (sym r.held_is)

some_append : (xs ys : List ℕ) → xs ≢ [] → xs ++ ys ≢ []
some_append [] ys some e = some refl
some_append (x ∷ xs) ys some e = cc

after_message : (side : Side) (stream now : List ℕ) (frame : Frame) (frames : List Frame) (tail : List ℕ)
    → BeginsWithFrame side stream frame now → Frames side stream frames tail
    → (later : List Frame) × (frames ≡ frame ∷ later) × Frames side now later tail
after_message side stream now frame [] tail begins f =
    absurd (f.1 frame now (subst (λ (v : List ℕ). BeginsWithFrame side v frame now) f.0 begins))
after_message side stream now frame (g ∷ gs) tail begins f =
    let same = BeginsWith_unique side stream frame g now f.0.0 begins f.0.1 in
    (gs, sym (ap (λ h. h ∷ gs) same.0), (subst (λ (v : List ℕ). BeginsWithFrames side v gs tail) (sym same.1) f.0.2, f.1))

-- a stream that begins with no frame has none
no_frames : (side : Side) (stream : List ℕ) (frames : List Frame) (tail : List ℕ) → HasNoFrame side stream
    → Frames side stream frames tail → (frames ≡ []) × (tail ≡ stream)
no_frames side stream [] tail none f = (refl, sym f.0)
no_frames side stream (g ∷ gs) tail none f = absurd (none g f.0.0 f.0.1)

nothing_begins : (side : Side) → HasNoFrame side []
nothing_begins side = none_within side [] 1 (some_bytes side []) (omega arith)

-- the answer by what it says of the bytes held and left
answers_told : (side : Side) (result : Result Next FrameFault) (s t held now : List ℕ)
    → IfMessage result (GivesFrame side (Some s) (Some t) held now) → UnlessMessage result (Reads (Some s) (Some t) held now)
    → (result ≡ Ok End → (now ≡ []) × IsAtEnd (Some t)) → (result ≡ Err NoFrame → HoldsNoFrame side now (Some t))
    → (frames : List Frame) (tail : List ℕ) → Frames side (held ++ s) frames tail
    → AnswersNext side result frames tail (Some (now ++ t))
answers_told side (Ok (Message frame)) s t held now message kept end none frames tail f =
    let stream = same_stream s t held message.all message.reads in
    let begins = BeginsWithFrame-append side message.all frame now t message.begins in
    after_message side (held ++ s) (now ++ t) frame frames tail
    (subst (λ (v : List ℕ). BeginsWithFrame side v frame (now ++ t)) (sym stream) begins) f
answers_told side (Ok End) s t held now message kept end none frames tail f =
    let ended = end refl in
    let empty : held ++ s ≡ [] = same_stream s t held now kept ∙ (λ i. ended.0 i ++ ended.1 i) in
    let all = no_frames side (held ++ s) frames tail (subst (λ (v : List ℕ). HasNoFrame side v) (sym empty) (nothing_begins side)) f in
    (all.0, all.1 ∙ empty)
answers_told side (Err NoFrame) s t held now message kept end none frames tail f =
    let here = none refl in
    let stream = same_stream s t held now kept in
    let all = no_frames side (held ++ s) frames tail (subst (λ (v : List ℕ). HasNoFrame side v) (sym stream) here.none_left) f in
    (all.0, λ e. some_append now t here.some (sym stream ∙ sym all.1 ∙ e))
answers_told side (Err ReadFault) s t held now message kept end none frames tail f =
    subst (λ (v : List ℕ). Frames side v frames tail) (same_stream s t held now kept) f
answers_told side (Err OutOfMemory) s t held now message kept end none frames tail f =
    subst (λ (v : List ℕ). Frames side v frames tail) (same_stream s t held now kept) f

-- where the source told what it had left, it still does
still_told : (side : Side) (result : Result Next FrameFault) (s held now : List ℕ)
    → IfMessage result (GivesFrame side (Some s) None held now) → UnlessMessage result (Reads (Some s) None held now) → ⊥
still_told side (Ok (Message frame)) s held now message kept = message.reads.consumed
still_told side (Ok End) s held now message kept = kept.consumed
still_told side (Err NoFrame) s held now message kept = kept.consumed
still_told side (Err ReadFault) s held now message kept = kept.consumed
still_told side (Err OutOfMemory) s held now message kept = kept.consumed

pub gives_next : (side : Side) (result : Result Next FrameFault) (left rest : Option (List ℕ)) (held now : List ℕ)
    → IfMessage result (GivesFrame side left rest held now) → UnlessMessage result (Reads left rest held now)
    → (result ≡ Ok End → (now ≡ []) × IsAtEnd rest) → (result ≡ Err NoFrame → HoldsNoFrame side now rest)
    → GivesNext side (stream_of held left) result (stream_of now rest)
gives_next side result None rest held now message kept end none = tt
gives_next side result (Some s) None held now message kept end none = absurd (still_told side result s held now message kept)
gives_next side result (Some s) (Some t) held now message kept end none =
    answers_told side result s t held now message kept end none

-- what a message of which each read was needed leaves
pub message_given : {S : Type 0} (side : Side) (left rest : Option (List ℕ)) (held now : List ℕ) (src after : S) (result : Result Next FrameFault)
    → IfMessage result (GivesAsNeeded side left rest held now src after) → IfMessage result (GivesFrame side left rest held now)
message_given side left rest held now src after (Ok (Message frame)) g = g.given
message_given side left rest held now src after (Ok End) g = tt
message_given side left rest held now src after (Err fault) g = tt

pub few_left : {S : Type 0} (side : Side) (left rest : Option (List ℕ)) (held now : List ℕ) (src after : S) (result : Result Next FrameFault)
    → IfMessage result (GivesAsNeeded side left rest held now src after) → HasNoFrame side held → IfMessage result (λ frame. length now < piece_limit)
few_left side left rest held now src after (Ok (Message frame)) g none =
    little_left side held g.given.all now src after frame g.needed g.given.begins none
few_left side left rest held now src after (Ok End) g none = tt
few_left side left rest held now src after (Err fault) g none = tt

pub stays_few : {S : Type 0} (side : Side) (left rest : Option (List ℕ)) (held now : List ℕ) (src after : S) (result : Result Next FrameFault)
    → IfMessage result (GivesAsNeeded side left rest held now src after) → UnlessMessage result (ReadsAsNeeded side held now src after)
    → length held < most_held side → length now < most_held side
stays_few side left rest held now src after (Ok (Message frame)) g u small =
    let all = stays_small side held g.given.all src after g.needed small in
    let begins = g.given.begins in
    omega (arith, ap length begins.stream_is, length-append begins.bytes now)
stays_few side left rest held now src after (Ok End) g u small = stays_small side held now src after u small
stays_few side left rest held now src after (Err fault) g u small = stays_small side held now src after u small

-- ---- the frame that is held

-- nothing was read
pub reads_nothing : (left : Option (List ℕ)) (held now : List ℕ) → now ≡ held → Reads left left held now
reads_nothing left held now same = record { read = []; consumed = none left; held_is = same ∙ sym (append-nil held) }
  where
    none : (l : Option (List ℕ)) → Consumes l l []
    none None = tt
    none (Some s) = refl

kept_reads : (left : Option (List ℕ)) (held now : List ℕ) (next : Result Next FrameFault) → UnlessMessage next (now ≡ held) → UnlessMessage next (Reads left left held now)
kept_reads left held now (Ok (Message frame)) same = tt
kept_reads left held now (Ok End) same = reads_nothing left held now same
kept_reads left held now (Err fault) same = reads_nothing left held now same

kept_needed : (side : Side) (held now : List ℕ) (next : Result Next FrameFault) → UnlessMessage next (now ≡ held) → UnlessMessage next (ReadsAsNeeded side held now held held)
kept_needed side held now (Ok (Message frame)) same = tt
kept_needed side held now (Ok End) same = inl (same, refl)
kept_needed side held now (Err fault) same = inl (same, refl)

-- an answer for which nothing was read
held_next : (side : Side) (left : Option (List ℕ)) (held now : List ℕ) (was is : Bool) (next : Result Next FrameFault) → was ≡ false → is ≡ is_refusal next
    → IfMessage next (GivesAsNeeded side left left held now held held) → UnlessMessage next (now ≡ held)
    → next ≢ Ok End → (next ≡ Err NoFrame → HoldsNoFrame side now left) → next ≢ Err ReadFault
    → TakesNext side left left (record { held = held; refused = was }) (record { held = now; refused = is }) next
held_next side left held now was is next open_yet refuses message same goes none other =
    let given = message_given side left left held now held held next message in
    let kept = kept_reads left held now next same in record {
      frames = λ o. gives_next side next left left held now given kept (λ e. absurd (goes e)) none;
      message = given;
      kept = kept;
      end = λ e. absurd (goes e);
      no_frame = λ o e. none e;
      refused = refuses;
      over = λ closed. absurd (false≢true (sym open_yet ∙ closed));
      waiting = λ e. absurd (other e);
      short = few_left side left left held now held held next message;
      small = stays_few side left left held now held held next message (kept_needed side held now next same);
    }

pub held_answers : (side : Side) (left : Option (List ℕ)) (held now : List ℕ) (was is : Bool) (result : Result (Option Frame) FrameFault) → was ≡ false
    → IfHeld result (λ next. is ≡ is_refusal next)
    → IfHeld result (λ next. IfMessage next (GivesAsNeeded side left left held now held held)) → IfHeld result (λ next. UnlessMessage next (now ≡ held))
    → (result ≡ Err NoFrame → HoldsNoFrame side now left) → result ≢ Err ReadFault
    → IfHeld result (λ next. TakesNext side left left (record { held = held; refused = was }) (record { held = now; refused = is }) next)
held_answers side left held now was is (Ok (Some frame)) open_yet refuses message same none other =
    held_next side left held now was is (Ok (Message frame)) open_yet refuses message same (λ e. cc) (λ e. cc) (λ e. cc)
held_answers side left held now was is (Ok None) open_yet refuses message same none other = tt
held_answers side left held now was is (Err NoFrame) open_yet refuses message same none other =
    held_next side left held now was is (Err NoFrame) open_yet refuses message same (λ e. cc) (λ e. none refl) (λ e. cc)
held_answers side left held now was is (Err ReadFault) open_yet refuses message same none other = absurd (other refl)
held_answers side left held now was is (Err OutOfMemory) open_yet refuses message same none other =
    held_next side left held now was is (Err OutOfMemory) open_yet refuses message same (λ e. cc) (λ e. cc) (λ e. cc)

-- after a refusal
pub refused_answers : (side : Side) (left : Option (List ℕ)) (intake : Intake) → intake.refused ≡ true → TakesNext side left left intake intake (Err NoFrame)
refused_answers side left intake closed = record {
  frames = λ o. absurd (false≢true (sym o ∙ closed));
  message = tt;
  kept = reads_nothing left intake.held intake.held refl;
  end = λ e. cc;
  no_frame = λ o e. absurd (false≢true (sym o ∙ closed));
  refused = closed;
  over = λ c. refl;
  waiting = λ e. cc;
  short = λ none. tt;
  small = λ few. few;
}
