-- What settles nothing, and what reads that were needed leave.
use Rattle.std.proofs.Common.{◌≡◌, ◌≢◌, ℕ, ◌+◌, ◌-◌, ◌*◌, ◌<◌, ◌≤◌, ◌⊎◌, List, [], ◌∷◌, ◌++◌, length, take, drop, codes, Option, refl, sym, ap, subst, ◌∙◌, inl, inr, arith, append_assoc}
use Rattle.std.proofs.lemmas.List.{length-append, length-take, length-drop, length-map, append-nil, take-append-drop}
use Rattle.std.proofs.lemmas.Bool.{cases_lt}
use Rattle.std.proofs.lemmas.List.Elements.{All-nil, All-cons}
use Rattle.std.proofs.lemmas.List.Sums.{AllPass-from_list_all}
use Rattle.std.specs.Str.{IsUtf8}
use Rattle.std.proofs.lemmas.Str.{IsUtf8-from_ascii}
use Rattle.std.proofs.lemmas.Str.Ascii.{IsAscii-from_all}
use Rattle.httparse.specs.declared.spans.HeaderSpan.{HeaderSpan}
use Rattle.httparse.specs.Grammar.{is_token_byte, is_uri_byte, print_chunk_line}
use Rattle.http_frames.specs.declared.frame.Side.{Side}
use Rattle.http_frames.specs.declared.frame.Side.TheVariants.{Request, Reply}
use Rattle.http_frames.specs.declared.frame.Start.TheVariants.{Ask, Answer}
use Rattle.http_frames.specs.declared.frame.Frame.{Frame}
use Rattle.http_frames.specs.declared.head.HeadSpans.{HeadSpans}
use Rattle.http_frames.specs.declared.look.FrameSpans.{FrameSpans}
use Rattle.http_frames.specs.Body.{counted}
use Rattle.http_frames.specs.Chunks.{chunks_text, chunks_body, LacksLine, LacksPart}
use Rattle.http_frames.specs.ChunkLooks.{WaitsForChunk}
use Rattle.http_frames.specs.Looks.{WaitsFor}
use Rattle.http_frames.specs.Frame.{head_limit, lines_limit, body_limit, frame_limit, IsFrame}
use Rattle.http_frames.specs.Stream.{BeginsWithFrame, HasNoFrame}
use Rattle.http_frames.specs.Text.{IsSoundFrame, phrase_of, IsLine}
use Rattle.http_frames.specs.Spans.{start_at, lines_at, framing_at, frame_at, IsFrameAt, IsGoodHead, AreBehind, HasNoHead, CanNotBegin}
use Rattle.http_frames.specs.Waiting.{piece_limit, LackChunk, MayBecomeHead, IsUnsettled, EndsInRead, ReadsAsNeeded, StaysUnsettled, EndsBelow}
use Rattle.http_frames.specs.Inbox.{Reads, GivesAsNeeded, most_held}
use Rattle.http_frames.proofs.FrameLemmas.{chunks_length}
use Rattle.http_frames.proofs.ChunkLemmas.{front_within}
use Rattle.http_frames.proofs.LookLemmas.{some_bytes, head_some, head_too_long, short_of_head, short_of_body, frame_goes_on, too_large, whole_frame, chunks_whole, chunks_never, no_head_within, too_many_lines, walked_none_yet}
use Rattle.http_frames.proofs.InboxLemmas.{NeedsBytes-more, none_within, frame_begins}
use Rattle.http_frames.proofs.TextLemmas.{written_is_read}

-- some message, of which nothing at all is a front
abbrev plain_request : Frame
plain_request = record { start = Ask (codes "GET") (codes "/") 1; lines = []; body = [] }

abbrev plain_reply : Frame
plain_reply = record { start = Answer 200 1; lines = []; body = [] }

slash_is_utf8 : IsUtf8 (codes "/")
slash_is_utf8 = IsUtf8-from_ascii (codes "/") (IsAscii-from_all (codes "/") (All-cons (λ b. b < 128) 47 [] (omega arith) (All-nil (λ b. b < 128))))

request_sound : IsSoundFrame Request plain_request
unfolding is_token_byte
request_sound = record {
  start = ((omega arith, AllPass-from_list_all is_token_byte (codes "GET") refl), (omega arith, AllPass-from_list_all is_uri_byte (codes "/") refl, slash_is_utf8), omega arith);
  lines = All-nil IsLine;
  head_fits = omega arith;
  lines_fit = omega arith;
  body = (refl, refl, omega arith);
}

reply_sound : IsSoundFrame Reply plain_reply
unfolding phrase_of
reply_sound = record {
  start = (omega arith, omega arith);
  lines = All-nil IsLine;
  head_fits = omega arith;
  lines_fit = omega arith;
  body = (refl, refl, omega arith);
}

nothing_may : (side : Side) → MayBecomeHead side []
nothing_may Request =
    let f = written_is_read Request plain_request request_sound in
    inl (f.head, f.head_is.is_head.head, (f.head_is.is_head.valid, f.head_is.is_head.text_is ∙ sym (append-nil _)))
nothing_may Reply =
    let f = written_is_read Reply plain_reply reply_sound in
    (f.head, f.head_is.is_head.head, (f.head_is.is_head.valid, f.head_is.is_head.text_is ∙ sym (append-nil _)))

-- as long as no more than the first bytes are there
only_first : (side : Side) (bytes : List ℕ) → IsUnsettled side bytes → StaysUnsettled side bytes (length bytes + 1)
only_first side bytes open_yet = record {
  stays = λ more. elim more as (λ m. length (bytes ++ m) < length bytes + 1 → IsUnsettled side (bytes ++ m)) [
    | [] ↦ λ h. subst (IsUnsettled side) (sym (append-nil bytes)) open_yet
    | x ∷ xs ↦ λ h. absurd (omega (arith, length-append bytes (x ∷ xs)))
  ];
}

-- where no frame can stand there is something
none_stands : (side : Side) (bytes text : List ℕ) (frame : Frame) → IsFrame side text frame → CanNotBegin side bytes → bytes ≢ []
none_stands side bytes text frame f never e = never.none (text ++ []) text [] frame f (ap (λ b. b ++ (text ++ [])) e)

pub never_empty : (side : Side) (bytes : List ℕ) → CanNotBegin side bytes → bytes ≢ []
never_empty Request bytes = none_stands Request bytes _ plain_request (written_is_read Request plain_request request_sound)
never_empty Reply bytes = none_stands Reply bytes _ plain_reply (written_is_read Reply plain_reply reply_sound)

no_head_of_nothing : (side : Side) → HasNoHead side []
no_head_of_nothing side = record {
  none = λ text rest start lines h e.
      absurd (omega (arith, head_some side text start lines h, ap length e, length-append text rest));
}

pub empty_waits : (side : Side) (bytes : List ℕ) → length bytes ≡ 0 → WaitsFor side bytes 1
empty_waits side [] h = record {
  more_wanted = omega arith;
  stays = only_first side [] (none_within side [] 1 (some_bytes side []) (omega arith), inl (record { few = omega arith; none = no_head_of_nothing side; may = nothing_may side }));
  most = omega arith;
}
empty_waits side (b ∷ bytes) h = absurd (omega arith)

pub head_waits : (side : Side) (bytes : List ℕ) → HasNoHead side bytes → MayBecomeHead side bytes → length bytes < head_limit → WaitsFor side bytes (length bytes + 1)
head_waits side bytes none may few = record {
  more_wanted = omega arith;
  stays = only_first side bytes (none_within side bytes (length bytes + 1) (short_of_head side bytes none) (omega arith), inl (record { few = few; none = none; may = may }));
  most = omega arith;
}

-- few lines are there
lines_few : (bytes : List ℕ) (headers : List HeaderSpan) (count : ℕ) → length headers ≤ lines_limit → length (lines_at bytes headers count) ≤ lines_limit
lines_few bytes headers count room = simp (length-map, length-take) (omega arith)

pub body_waits : (side : Side) (bytes : List ℕ) (headers : List HeaderSpan) (head : HeadSpans) (n : ℕ)
    → IsGoodHead side bytes headers head → framing_at bytes headers head ≡ counted n → n ≤ body_limit side
    → length bytes < head.len + n → WaitsFor side bytes (head.len + n)
body_waits side bytes headers head n h e fits lacking = record {
  more_wanted = lacking;
  most = omega (arith, h.fits);
  stays = record {
    stays = λ more few.
        let len = head.len in
        let needs = NeedsBytes-more side bytes more (bytes ++ more) (len + n) (short_of_body side bytes headers head n h e) refl in
        let parts : bytes ++ more ≡ take len bytes ++ (drop len bytes ++ more) =
        ap (λ t. t ++ more) (sym (take-append-drop len bytes)) ∙ append_assoc (take len bytes) (drop len bytes) more in
        let front : length (take len bytes) ≡ len = length-take len bytes ∙ omega (arith, h.at.lines_fit.len_fits) in
        let whole : length (bytes ++ more) ≡ length (take len bytes) + length (drop len bytes ++ more) =
        ap length parts ∙ length-append (take len bytes) (drop len bytes ++ more) in (
          none_within side (bytes ++ more) (len + n) needs few,
          inr (inl (record {
            head = take len bytes;
            part = drop len bytes ++ more;
            start = start_at bytes head.start;
            lines = lines_at bytes headers head.lines;
            announced = n;
            bytes_are = parts;
            head_is = record {
              is_head = h.at.is_head;
              head_fits = omega (arith, h.fits, front);
              lines_fit = lines_few bytes headers head.lines h.room;
            };
            framing = e;
            body_fits = fits;
            lacks = omega (arith, whole, front, few);
          })),
        );
  };
}

-- the next chunk or the end of the body may still come
pub chunks_wait : (side : Side) (bytes body : List ℕ) (headers : List HeaderSpan) (head : HeadSpans) (at need end : ℕ)
    → AreBehind side bytes headers head at body → WaitsForChunk (body_limit side - length body) (drop at (drop head.len bytes)) need
    → end ≡ head.len + at + need → WaitsFor side bytes end
chunks_wait side bytes body headers head at need end b waits end_is =
    let len = head.len in
    let rest = drop len bytes in
    let behind = drop at rest in
    let w = b.chunks in
    let before = chunks_text w.chunks in
    let limit = body_limit side in
    let count : length bytes ≡ len + at + length behind =
    omega (arith, b.good.at.lines_fit.len_fits, b.within, length-drop len bytes, length-drop at rest) in
    let walked_fits : at ≤ length body * 259 = omega (arith, w.at_is, ap length w.body_is, chunks_length w.chunks w.each) in
    let short : (more : List ℕ) → length (bytes ++ more) < end → length (behind ++ more) < need =
    λ more few. omega (arith, count, end_is, length-append bytes more, length-append behind more) in
    record {
      more_wanted = omega (arith, count, end_is, waits.more_wanted);
      most = omega (arith, b.good.fits, end_is, waits.most_wanted, walked_fits, b.fits);
      stays = record {
        stays = λ more few.
            let parts : bytes ++ more ≡ take len bytes ++ (before ++ (behind ++ more)) =
            ap (λ t. t ++ more) (sym (take-append-drop len bytes) ∙ ap (λ t. take len bytes ++ t) w.bytes_are)
            ∙ append_assoc (take len bytes) (before ++ behind) more ∙ ap (λ t. take len bytes ++ t) (append_assoc before behind more) in
            let front : length (take len bytes) ≡ len = length-take len bytes ∙ omega (arith, b.good.at.lines_fit.len_fits) in
            let lacks = subst (λ (b : List ℕ). LacksLine (behind ++ more) ⊎ LacksPart (limit - length b) (behind ++ more)) w.body_is
            (waits.lacks more (short more few)) in (
              λ frame after begins. waits.none more (short more few)
                  (frame_goes_on side bytes more begins.bytes after body headers head at frame b begins.is_frame begins.stream_is),
              inr (inr (record {
                head = take len bytes;
                part = behind ++ more;
                start = start_at bytes head.start;
                lines = lines_at bytes headers head.lines;
                chunks = w.chunks;
                bytes_are = parts;
                head_is = record {
                  is_head = b.good.at.is_head;
                  head_fits = omega (arith, b.good.fits, front);
                  lines_fit = lines_few bytes headers head.lines b.good.room;
                };
                framing = b.framing;
                each = w.each;
                body_fits = omega (arith, b.fits, ap length w.body_is);
                lacks = lacks;
              })),
            );
      };
    }

-- where more is waited for there is no frame, also when some more came
pub waits_still : (side : Side) (held read now : List ℕ) (need : ℕ) → WaitsFor side held need → now ≡ held ++ read → length now < need
    → HasNoFrame side now
waits_still side held read now need waits is few =
    subst (λ (t : List ℕ). HasNoFrame side t) (sym is) (waits.stays.stays read (subst (λ (t : List ℕ). length t < need) is few)).0

-- reads behind bytes that were read before
pub ends_in_read : (side : Side) (first held now read : List ℕ) (need : ℕ) → held ≡ first ++ read → IsUnsettled side first
    → StaysUnsettled side held need → EndsBelow need held now → EndsInRead side first now
ends_in_read side first held now read need is opens stays ends =
    let all : held ++ ends.earlier ≡ first ++ (read ++ ends.earlier) = ap (λ t. t ++ ends.earlier) is ∙ append_assoc first read ends.earlier in
    record {
      opens = opens;
      earlier = read ++ ends.earlier;
      piece = ends.piece;
      all_is = ends.all_is ∙ ap (λ t. t ++ ends.piece) all;
      unsettled = subst (IsUnsettled side) all (stays.stays ends.earlier ends.below);
      small = ends.small;
    }

-- the first bytes settle nothing where some were read behind them, or where more are needed
pub opens_at : {S : Type 0} (side : Side) (first held : List ℕ) (src now : S) (need : ℕ) → ReadsAsNeeded side first held src now
    → StaysUnsettled side held need → length held < need → IsUnsettled side first
opens_at side first held src now need (inl same) stays few =
    subst (IsUnsettled side) (append-nil held ∙ same.0) (stays.stays [] (subst (λ (t : List ℕ). length t < need) (sym (append-nil held)) few))
opens_at side first held src now need (inr read) stays few = read.opens

-- a reading that goes on where nothing is settled was needed
pub needed_on : {S : Type 0} (side : Side) (first held now read : List ℕ) (src mid after : S) (need : ℕ) → held ≡ first ++ read
    → ReadsAsNeeded side first held src mid → StaysUnsettled side held need → length held < need → EndsBelow need held now
    → ReadsAsNeeded side first now src after
needed_on side first held now read src mid after need is needed stays few ends =
    inr (ends_in_read side first held now read need is (opens_at side first held src mid need needed stays few) stays ends)

lacks_few : (most : ℕ) (part : List ℕ) → LacksLine part ⊎ LacksPart most part → length part ≤ most + 257
lacks_few most part (inl line) = omega (arith, line.few)
lacks_few most part (inr p) =
    let count : length p.part ≤ p.announced + 1 = elim p.lacks [
      | inl few ↦ omega arith
      | inr front ↦ omega (arith, ap length front.2, length-append front.0 (13 ∷ []), front.1)
    ] in
    omega (arith, p.announces.fits, p.fits, ap length p.text_is, length-append (print_chunk_line p.line) p.part)

-- where a chunk is lacking, no more is there than a message may have
chunk_small : (side : Side) (bytes : List ℕ) → LackChunk side bytes → length bytes < frame_limit side
chunk_small side bytes lack =
    let before = chunks_text lack.chunks in
    let part = lacks_few (body_limit side - length (chunks_body lack.chunks)) lack.part lack.lacks in
    omega (arith, part, lack.head_is.head_fits, lack.body_fits, chunks_length lack.chunks lack.each, ap length lack.bytes_are, length-append lack.head (before ++ lack.part), length-append before lack.part)

-- little is held
pub stays_small : {S : Type 0} (side : Side) (first all : List ℕ) (src after : S) → ReadsAsNeeded side first all src after
    → length first < most_held side → length all < most_held side
stays_small side first all src after (inl same) small = subst (λ (v : List ℕ). length v < most_held side) (sym same.0) small
stays_small side first all src after (inr read) small =
    let before = first ++ read.earlier in
    let whole : length all ≡ length before + length read.piece = ap length read.all_is ∙ length-append before read.piece in
    elim read.unsettled.1 [
      | inl lack ↦ omega (arith, lack.few, read.small)
      | inr later ↦ elim later [
        | inl lack ↦
            let parts : length before ≡ length lack.head + length lack.part = ap length lack.bytes_are ∙ length-append lack.head lack.part in
            omega (arith, lack.head_is.head_fits, lack.lacks, lack.body_fits, read.small)
        | inr lack ↦ omega (arith, chunk_small side before lack, read.small)
      ]
    ]

-- a message that was taken off the front of what reads gave
pub taken : {S : Type 0} (side : Side) (left rest : Option (List ℕ)) (held all now : List ℕ) (src after : S) (headers : List HeaderSpan)
    (body : List ℕ) (spans : FrameSpans) (frame : Frame) → Reads left rest held all → ReadsAsNeeded side held all src after
    → IsFrameAt side all headers body spans → frame ≡ frame_at all headers body spans → now ≡ drop spans.end all
    → GivesAsNeeded side left rest held now src after frame
taken side left rest held all now src after headers body spans frame reads needed f is now_is =
    let begins = frame_begins side all body headers spans f in
    record {
      given = record {
        all = all;
        reads = reads;
        few = stays_small side held all src after needed;
        begins = record {
          bytes = begins.bytes;
          is_frame = subst (IsFrame side begins.bytes) (sym is) begins.is_frame;
          stream_is = begins.stream_is ∙ ap (λ t. begins.bytes ++ t) (sym now_is);
        };
      };
      needed = needed;
    }

-- a message that had to be read leaves less than a piece
pub little_left : {S : Type 0} (side : Side) (first all now : List ℕ) (src after : S) (frame : Frame)
    → ReadsAsNeeded side first all src after → BeginsWithFrame side all frame now → HasNoFrame side first → length now < piece_limit
little_left side first all now src after frame (inl same) begins none =
    absurd (none frame now (subst (λ (v : List ℕ). BeginsWithFrame side v frame now) same.0 begins))
little_left side first all now src after frame (inr read) begins none =
    let before = first ++ read.earlier in
    let same : before ++ read.piece ≡ begins.bytes ++ now = sym read.all_is ∙ begins.stream_is in
    let whole : length before + length read.piece ≡ length begins.bytes + length now =
    sym (length-append before read.piece) ∙ ap length same ∙ length-append begins.bytes now in
    elim (cases_lt (length before) (length begins.bytes)) [
      | inl longer ↦ omega (arith, read.small)
      | inr inside ↦ absurd (read.unsettled.0 frame (drop (length begins.bytes) before) (record {
        bytes = begins.bytes;
        is_frame = begins.is_frame;
        stream_is = front_within before read.piece begins.bytes now same inside;
      }))
    ]

-- how a look for a body of a length goes
pub ruleset body_cases = (too_large, body_waits, whole_frame)

-- how a look at chunks ends
pub ruleset chunks_cases = (chunks_whole, chunks_never, chunks_wait)

-- how a look from the start goes
pub ruleset start_cases = (no_head_within, too_many_lines, head_too_long, empty_waits, head_waits, walked_none_yet)
