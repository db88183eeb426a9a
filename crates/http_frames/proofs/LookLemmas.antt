-- What a head at the front of some bytes tells of a frame there.
use Rattle.std.proofs.Common.{◌≡◌, ℕ, ◌+◌, ◌-◌, ◌<◌, ◌≤◌, true, false, List, [], ◌∷◌, ◌++◌, length, take, drop, map, Option, None, Some, refl, sym, ap, subst, ◌∙◌, inl, inr, arith, append_assoc}
use Rattle.std.proofs.lemmas.List.{take_at, take-append-le, take-append-drop, take-take, drop-take, length-take, length-map, length-drop, length-append, drop-append-le}
use Rattle.std.specs.Prelude.{All}
use Rattle.std.proofs.lemmas.Bool.{cases_lt}
use Rattle.std.proofs.lemmas.List.Elements.{All-head, All-tail}
use Rattle.httparse.specs.declared.spans.Span.{Span}
use Rattle.httparse.specs.declared.spans.HeaderSpan.{HeaderSpan}
use Rattle.httparse.specs.Spans.{IsWithin, IsHeaderWithin, span_bytes, header_bytes}
use Rattle.httparse.specs.Grammar.{RequestHead, print_request, ResponseHead, print_response}
use Rattle.http_frames.specs.declared.frame.Side.{Side}
use Rattle.http_frames.specs.declared.frame.Side.TheVariants.{Request, Reply}
use Rattle.http_frames.specs.declared.frame.Start.{Start}
use Rattle.http_frames.specs.declared.frame.Start.TheVariants.{Ask}
use Rattle.http_frames.specs.declared.frame.Frame.{Frame}
use Rattle.http_frames.specs.declared.head.StartSpans.{StartSpans}
use Rattle.http_frames.specs.declared.head.StartSpans.TheVariants as spans
use Rattle.http_frames.specs.declared.head.HeadSpans.{HeadSpans}
use Rattle.http_frames.specs.Lines.{Line}
use Rattle.http_frames.specs.Body.{Framing, counted, chunked, refused, framing_of, CarriesBody}
use Rattle.http_frames.specs.Chunks.{chunks_text, IsChunked}
use Rattle.http_frames.specs.ChunkLooks.{AreChunksAt, GoesOn, GoesOnBy, ExcludesChunk}
use Rattle.http_frames.specs.Frame.{body_limit, IsHead, IsFrame}
use Rattle.http_frames.specs.Spans.{start_at, lines_at, framing_at, IsStartWithin, IsHeadAt, IsGoodHead, IsWalked, AreBehind, HasNoHead, HeadExceeds, IsFrameAt, NeedsBytes, CanNotBegin}
use Rattle.http_frames.proofs.FrameLemmas.{IsHead_unique}
use Rattle.http_frames.proofs.ChunkLemmas.{front_within, walked_none, goes_on}
use Rattle.httparse.specs.Ascii.{crlf_bytes}
use Rattle.httparse.specs.Grammar.{print_chunk_line}

-- where a frame stands, its head does
head_stands : (side : Side) (bytes more text rest : List ℕ) (frame : Frame) (f : IsFrame side text frame)
    → bytes ++ more ≡ text ++ rest → bytes ++ more ≡ f.head ++ (f.carried ++ rest)
head_stands side bytes more text rest frame f e =
    e ∙ ap (λ t. t ++ rest) f.bytes_are ∙ append_assoc f.head f.carried rest

-- no head so far: a frame is longer
pub short_of_head : (side : Side) (bytes : List ℕ) → HasNoHead side bytes → NeedsBytes side bytes (length bytes + 1)
short_of_head side bytes none = record {
  at_least = λ more text rest frame f e.
      elim (cases_lt (length bytes) (length text)) [
        | inl longer ↦ omega arith
        | inr inside ↦
            let whole = front_within bytes more text rest e inside ∙ ap (λ t. t ++ drop (length text) bytes) f.bytes_are
            ∙ append_assoc f.head f.carried (drop (length text) bytes) in
            absurd (none.none f.head _ frame.start frame.lines f.head_is.is_head whole)
      ];
}

-- no head in as many bytes as one may have
pub no_head_within : (side : Side) (bytes : List ℕ) → HasNoHead side bytes → 16384 ≤ length bytes → CanNotBegin side bytes
no_head_within side bytes none many = record {
  none = λ more text rest frame f e.
      let stands = head_stands side bytes more text rest frame f e in
      let inside : length f.head ≤ length bytes = omega (arith, f.head_is.head_fits) in
      none.none f.head _ frame.start frame.lines f.head_is.is_head (front_within bytes more f.head (f.carried ++ rest) stands inside);
}

-- too many lines
pub too_many_lines : (side : Side) (bytes : List ℕ) → HeadExceeds side 64 bytes → CanNotBegin side bytes
too_many_lines side bytes over = record {
  none = λ more text rest frame f e.
      let many = over.exceeds more f.head (f.carried ++ rest) frame.start frame.lines f.head_is.is_head (head_stands side bytes more text rest frame f e) in
      absurd (omega (arith, f.head_is.lines_fit));
}

-- the head that was found is the head of a frame there
record IsThatHead
    (bytes more : List ℕ) (headers : List HeaderSpan) (head : HeadSpans) (start : Start) (lines : List Line)
    (text behind : List ℕ) : Type 0 where
  framing_is : framing_at bytes headers head ≡ framing_of start lines
  len_is : head.len ≡ length text
  behind_is : drop head.len bytes ++ more ≡ behind

that_head : (side : Side) (bytes more text rest : List ℕ) (headers : List HeaderSpan) (head : HeadSpans) (frame : Frame)
    → IsHeadAt side bytes headers head → (f : IsFrame side text frame) → bytes ++ more ≡ text ++ rest
    → IsThatHead bytes more headers head frame.start frame.lines f.head (f.carried ++ rest)
that_head side bytes more text rest headers head frame h f e =
    let n = head.len in
    let split : take n bytes ++ (drop n bytes ++ more) ≡ f.head ++ (f.carried ++ rest) =
    sym (append_assoc (take n bytes) (drop n bytes) more) ∙ ap (λ t. t ++ more) (take-append-drop n bytes)
    ∙ head_stands side bytes more text rest frame f e in
    let same = IsHead_unique side (take n bytes) f.head (start_at bytes head.start) frame.start
    (lines_at bytes headers head.lines) frame.lines _ _ h.is_head f.head_is.is_head split in
    let whole : length (take n bytes) ≡ n = length-take n bytes ∙ omega (arith, h.lines_fit.len_fits) in
    record { framing_is = λ i. framing_of (same.0 i) (same.1 i); len_is = sym whole ∙ ap length same.2; behind_is = same.3 }

-- the head is too long
pub head_too_long : (side : Side) (bytes : List ℕ) (headers : List HeaderSpan) (head : HeadSpans)
    → IsHeadAt side bytes headers head → 16384 < head.len → CanNotBegin side bytes
head_too_long side bytes headers head h long = record {
  none = λ more text rest frame f e.
      let that = that_head side bytes more text rest headers head frame h f e in
      absurd (omega (arith, f.head_is.head_fits, that.len_is));
}

-- how the body of that frame is carried
that_body : (side : Side) (bytes more text rest : List ℕ) (headers : List HeaderSpan) (head : HeadSpans) (framing : Framing) (frame : Frame)
    → IsHeadAt side bytes headers head → framing_at bytes headers head ≡ framing → (f : IsFrame side text frame) → bytes ++ more ≡ text ++ rest
    → CarriesBody (body_limit side) framing f.carried frame.body
that_body side bytes more text rest headers head framing frame h is f e =
    let that = that_head side bytes more text rest headers head frame h f e in
    subst (λ (t : Framing). CarriesBody (body_limit side) t f.carried frame.body) (sym that.framing_is ∙ is) f.body

-- it announces no body
pub no_body : (side : Side) (bytes : List ℕ) (headers : List HeaderSpan) (head : HeadSpans)
    → IsGoodHead side bytes headers head → framing_at bytes headers head ≡ refused → CanNotBegin side bytes
no_body side bytes headers head h is = record {
  none = λ more text rest frame f e. that_body side bytes more text rest headers head refused frame h.at is f e;
}

-- it announces too long a body
pub too_large : (side : Side) (bytes : List ℕ) (headers : List HeaderSpan) (head : HeadSpans) (n : ℕ)
    → IsGoodHead side bytes headers head → framing_at bytes headers head ≡ counted n → body_limit side < n → CanNotBegin side bytes
too_large side bytes headers head n h is large = record {
  none = λ more text rest frame f e.
      let body = that_body side bytes more text rest headers head (counted n) frame h.at is f e in
      absurd (omega (arith, body.2));
}

-- the body's length is known
pub short_of_body : (side : Side) (bytes : List ℕ) (headers : List HeaderSpan) (head : HeadSpans) (n : ℕ)
    → IsGoodHead side bytes headers head → framing_at bytes headers head ≡ counted n
    → NeedsBytes side bytes (head.len + n)
short_of_body side bytes headers head n h is = record {
  at_least = λ more text rest frame f at.
      let that = that_head side bytes more text rest headers head frame h.at f at in
      let body = that_body side bytes more text rest headers head (counted n) frame h.at is f at in
      let whole : length text ≡ length f.head + length f.carried = ap length f.bytes_are ∙ length-append f.head f.carried in
      omega (arith, that.len_is, ap length body.0, body.1);
}

take_split : (xs : List ℕ) (m n : ℕ) → m ≤ n → take n xs ≡ take m xs ++ take (n - m) (drop m xs)
take_split xs m n ordered =
    let count : n ≡ m + (n - m) = omega arith in
    sym (take-append-drop m (take n xs))
    ∙ (λ i. take-take m n xs ordered i ++ (ap (λ k. drop m (take k xs)) count ∙ drop-take m (n - m) xs) i)

-- the head and what carries the body are there
whole : (side : Side) (bytes carried body : List ℕ) (headers : List HeaderSpan) (head : HeadSpans) (end : ℕ)
    → IsGoodHead side bytes headers head → head.len ≤ end → take (end - head.len) (drop head.len bytes) ≡ carried
    → CarriesBody (body_limit side) (framing_at bytes headers head) carried body
    → IsFrame side (take end bytes) (record { start = start_at bytes head.start; lines = lines_at bytes headers head.lines; body = body })
whole side bytes carried body headers head end h ordered is carries =
    let len = head.len in
    let lines = lines_at bytes headers head.lines in
    let short : length (take len bytes) ≤ 16384 = simp length-take (omega (arith, h.fits)) in
    let few : length lines ≤ 64 = simp (length-map, length-take) (omega (arith, h.room)) in
    record {
      head = take len bytes;
      carried = carried;
      bytes_are = take_split bytes len end ordered ∙ ap (λ t. take len bytes ++ t) is;
      head_is = record { is_head = h.at.is_head; head_fits = short; lines_fit = few };
      body = carries;
    }

-- the body is there
pub whole_frame : (side : Side) (bytes body : List ℕ) (headers : List HeaderSpan) (head : HeadSpans) (n : ℕ)
    → IsGoodHead side bytes headers head → framing_at bytes headers head ≡ counted n → n ≤ body_limit side → head.len + n ≤ length bytes
    → IsFrameAt side bytes headers body (record { start = head.start; lines = head.lines; body = head.len; chunked = false; end = head.len + n })
whole_frame side bytes body headers head n h e fits there =
    let len = head.len in
    let end = len + n in
    let carried = take (end - len) (drop len bytes) in
    let body_is : length carried ≡ n = simp (length-take, length-drop) (omega arith) in
    let carries : CarriesBody (body_limit side) (framing_at bytes headers head) carried carried =
    subst (λ (f : Framing). CarriesBody (body_limit side) f carried carried) (sym e) (refl, body_is, fits) in
    record {
      is_frame = whole side bytes carried carried headers head end h (omega arith) refl carries;
      within = record {
        start_fits = h.at.start_fits;
        lines_fit = h.at.lines_fit;
        ordered = omega arith;
        end_fits = there;
      };
    }

-- ---- chunks behind the head

-- no head was found yet
pub walked_none_yet : (side : Side) (bytes body : List ℕ) (headers : List HeaderSpan) (head : Option HeadSpans) (at : ℕ)
    → head ≡ None → at ≡ 0 → body ≡ [] → IsWalked side bytes headers head at body
walked_none_yet side bytes body headers head at none start empty =
    subst (λ (h : Option HeadSpans). IsWalked side bytes headers h at body) (sym none) (start, empty)

pub none_walked : (side : Side) (bytes body : List ℕ) (headers : List HeaderSpan) (kept : Option HeadSpans) (at : ℕ)
    → kept ≡ None → IsWalked side bytes headers kept at body → (at ≡ 0) × (body ≡ [])
none_walked side bytes body headers kept at is w = subst (λ (h : Option HeadSpans). IsWalked side bytes headers h at body) is w

-- a head was found
pub walked_behind : (side : Side) (bytes body : List ℕ) (headers : List HeaderSpan) (kept : Option HeadSpans) (head : HeadSpans) (at : ℕ)
    → kept ≡ Some head → IsWalked side bytes headers kept at body → AreBehind side bytes headers head at body
walked_behind side bytes body headers kept head at is w = subst (λ (h : Option HeadSpans). IsWalked side bytes headers h at body) is w

pub behind_walked : (side : Side) (bytes body : List ℕ) (headers : List HeaderSpan) (kept : Option HeadSpans) (head : HeadSpans) (at : ℕ)
    → kept ≡ Some head → AreBehind side bytes headers head at body → IsWalked side bytes headers kept at body
behind_walked side bytes body headers kept head at is b = subst (λ (h : Option HeadSpans). IsWalked side bytes headers h at body) (sym is) b

-- none were walked behind the head that was found
pub behind_none : (side : Side) (bytes body : List ℕ) (headers : List HeaderSpan) (head : HeadSpans) (at : ℕ)
    → IsGoodHead side bytes headers head → framing_at bytes headers head ≡ chunked → at ≡ 0 → body ≡ []
    → AreBehind side bytes headers head at body
behind_none side bytes body headers head at h is start empty =
    let rest = drop head.len bytes in
    let none : AreChunksAt rest 0 body = subst (λ (b : List ℕ). AreChunksAt rest 0 b) (sym empty) (walked_none rest) in
    record {
      good = h;
      framing = is;
      chunks = subst (λ (k : ℕ). AreChunksAt rest k body) (sym start) none;
      within = omega (arith, start);
      fits = omega (arith, ap length empty);
    }

-- more were walked
pub behind_on : (side : Side) (bytes body more : List ℕ) (headers : List HeaderSpan) (head : HeadSpans) (at next : ℕ)
    → AreBehind side bytes headers head at body → AreChunksAt (drop head.len bytes) next more → next ≤ length (drop head.len bytes)
    → length more ≤ body_limit side → AreBehind side bytes headers head next more
behind_on side bytes body more headers head at next b chunks within fits =
    record { good = b.good; framing = b.framing; chunks = chunks; within = within; fits = fits }

-- what spans in the first bytes cover stays when more bytes came
span_more : (bytes read : List ℕ) (n : ℕ) (s : Span) → n ≤ length bytes → IsWithin n s → span_bytes (bytes ++ read) s ≡ span_bytes bytes s
span_more bytes read n s fits within =
    let before : s.start ≤ length bytes = omega (arith, within.0, within.1) in
    let inside : s.end - s.start ≤ length (drop s.start bytes) = omega (arith, within.0, within.1, length-drop s.start bytes) in
    ap (take (s.end - s.start)) (drop-append-le s.start bytes read before) ∙ take-append-le (s.end - s.start) (drop s.start bytes) read inside

start_more : (bytes read : List ℕ) (n : ℕ) (s : StartSpans) → n ≤ length bytes → IsStartWithin n s → start_at (bytes ++ read) s ≡ start_at bytes s
start_more bytes read n (spans.Ask method target minor) fits within =
    λ i. Ask (span_more bytes read n method fits within.0 i) (span_more bytes read n target fits within.1 i) minor
start_more bytes read n (spans.Answer status minor) fits within = refl

headers_more : (bytes read : List ℕ) (n : ℕ) → n ≤ length bytes → (headers : List HeaderSpan) → All (IsHeaderWithin n) headers
    → map (header_bytes (bytes ++ read)) headers ≡ map (header_bytes bytes) headers
headers_more bytes read n fits [] all = refl
headers_more bytes read n fits (h ∷ hs) all =
    let here : IsHeaderWithin n h = All-head (IsHeaderWithin n) h hs all in
    λ i. (span_more bytes read n h.name fits here.0 i, span_more bytes read n h.value fits here.1 i)
    ∷ headers_more bytes read n fits hs (All-tail (IsHeaderWithin n) h hs all) i

-- the head stays when more bytes came
head_more : (side : Side) (bytes read : List ℕ) (headers : List HeaderSpan) (head : HeadSpans)
    → IsHeadAt side bytes headers head
    → IsHeadAt side (bytes ++ read) headers head × (framing_at (bytes ++ read) headers head ≡ framing_at bytes headers head)
head_more side bytes read headers head h =
    let len = head.len in
    let fits = h.lines_fit.len_fits in
    let front : take len (bytes ++ read) ≡ take len bytes = take-append-le len bytes read fits in
    let start = start_more bytes read len head.start fits h.start_fits in
    let lines : lines_at (bytes ++ read) headers head.lines ≡ lines_at bytes headers head.lines =
    headers_more bytes read len fits (take head.lines headers) h.lines_fit.headers_fit in
    let with_lines = subst (λ (l : List Line). IsHead side (take len bytes) (start_at bytes head.start) l) (sym lines) h.is_head in
    let with_start = subst (λ (s : Start). IsHead side (take len bytes) s (lines_at (bytes ++ read) headers head.lines)) (sym start) with_lines in (
      record {
        is_head = subst (λ (t : List ℕ). IsHead side t (start_at (bytes ++ read) head.start) (lines_at (bytes ++ read) headers head.lines)) (sym front) with_start;
        start_fits = h.start_fits;
        lines_fit = record {
          len_fits = omega (arith, fits, length-append bytes read);
          count_fits = h.lines_fit.count_fits;
          headers_fit = h.lines_fit.headers_fit;
        };
      },
      λ i. framing_of (start i) (lines i),
    )

-- chunks stay behind it when more bytes came
behind_more : (side : Side) (bytes read body : List ℕ) (headers : List HeaderSpan) (head : HeadSpans) (at : ℕ)
    → AreBehind side bytes headers head at body → AreBehind side (bytes ++ read) headers head at body
behind_more side bytes read body headers head at b =
    let w = b.chunks in
    let before = chunks_text w.chunks in
    let rest = drop head.len bytes in
    let more = head_more side bytes read headers head b.good.at in
    let rest_is : drop head.len (bytes ++ read) ≡ rest ++ read = drop-append-le head.len bytes read b.good.at.lines_fit.len_fits in
    let chunks : AreChunksAt (rest ++ read) at body = record {
      chunks = w.chunks;
      each = w.each;
      bytes_are = ap (λ t. t ++ read) w.bytes_are ∙ append_assoc before (drop at rest) read
          ∙ ap (λ t. before ++ t) (sym (drop-append-le at rest read b.within));
      at_is = w.at_is;
      body_is = w.body_is;
    } in
    record {
      good = record { at = more.0; fits = b.good.fits; room = b.good.room };
      framing = more.1 ∙ b.framing;
      chunks = subst (λ (r : List ℕ). AreChunksAt r at body) (sym rest_is) chunks;
      within = omega (arith, b.within, ap length rest_is, length-append rest read);
      fits = b.fits;
    }

pub walked_more : (side : Side) (bytes read now body : List ℕ) (headers : List HeaderSpan) (head : Option HeadSpans) (at : ℕ)
    → now ≡ bytes ++ read → IsWalked side bytes headers head at body → IsWalked side now headers head at body
walked_more side bytes read now body headers None at is w = w
walked_more side bytes read now body headers (Some head) at is w =
    subst (λ (t : List ℕ). AreBehind side t headers head at body) (sym is) (behind_more side bytes read body headers head at w)

-- where a frame stands, its chunks go on behind those that were walked
pub frame_goes_on : (side : Side) (bytes more text rest body : List ℕ) (headers : List HeaderSpan) (head : HeadSpans) (at : ℕ) (frame : Frame)
    → AreBehind side bytes headers head at body → IsFrame side text frame → bytes ++ more ≡ text ++ rest
    → GoesOn (body_limit side - length body) (drop at (drop head.len bytes) ++ more)
frame_goes_on side bytes more text rest body headers head at frame b f e =
    let limit = body_limit side in
    let behind = drop at (drop head.len bytes) in
    let that = that_head side bytes more text rest headers head frame b.good.at f e in
    let c = that_body side bytes more text rest headers head chunked frame b.good.at b.framing f e in
    let w = b.chunks in
    let ours = chunks_text w.chunks in
    let theirs = chunks_text c.0.chunks in
    let last = print_chunk_line c.0.last in
    let same : ours ++ (behind ++ more) ≡ theirs ++ (last ++ (crlf_bytes ++ rest)) =
    sym (append_assoc ours behind more) ∙ ap (λ t. t ++ more) (sym w.bytes_are) ∙ that.behind_is ∙ ap (λ t. t ++ rest) c.0.carried_is
    ∙ append_assoc theirs (last ++ crlf_bytes) rest ∙ ap (λ t. theirs ++ t) (append_assoc last crlf_bytes rest) in
    let found = goes_on limit w.chunks c.0.chunks c.0.last (behind ++ more) rest w.each c.0.each c.0.ends same
    (omega (arith, c.1, ap length c.0.body_is)) in
    subst (λ (b : List ℕ). GoesOn (limit - length b) (behind ++ more)) (sym w.body_is) found

-- they can't go on
pub chunks_never : (side : Side) (bytes body : List ℕ) (headers : List HeaderSpan) (head : HeadSpans) (at : ℕ)
    → AreBehind side bytes headers head at body → ExcludesChunk (body_limit side - length body) (drop at (drop head.len bytes))
    → CanNotBegin side bytes
chunks_never side bytes body headers head at b never = record {
  none = λ more text rest frame f e. never.none more (frame_goes_on side bytes more text rest body headers head at frame b f e);
}

-- the body ends behind them
pub chunks_whole : (side : Side) (bytes body : List ℕ) (headers : List HeaderSpan) (head : HeadSpans) (at start end : ℕ)
    → AreBehind side bytes headers head at body → GoesOnBy (drop at (drop head.len bytes)) start 0 → end ≡ head.len + at + start + 2
    → IsFrameAt side bytes headers body (record { start = head.start; lines = head.lines; body = head.len; chunked = true; end = end })
chunks_whole side bytes body headers head at start end b g end_is =
    let len = head.len in
    let rest = drop len bytes in
    let behind = drop at rest in
    let before = chunks_text b.chunks.chunks in
    let last = print_chunk_line g.at.line in
    let carried = before ++ (last ++ crlf_bytes) in
    let after = drop 2 (drop start behind) in
    let all : rest ≡ carried ++ after =
    b.chunks.bytes_are ∙ ap (λ t. before ++ t) (g.at.text_is ∙ ap (λ t. last ++ t) g.ends.text_is ∙ sym (append_assoc last crlf_bytes after))
    ∙ sym (append_assoc before (last ++ crlf_bytes) after) in
    let count : length carried ≡ end - len =
    omega (arith, end_is, b.chunks.at_is, g.at.start_is, length-append before (last ++ crlf_bytes), length-append last crlf_bytes) in
    let front : take (end - len) rest ≡ carried = ap (take (end - len)) all ∙ take_at carried after (end - len) count in
    let is_chunked : IsChunked carried body = record {
      chunks = b.chunks.chunks;
      last = g.at.line;
      each = b.chunks.each;
      ends = g.at.announces;
      carried_is = refl;
      body_is = b.chunks.body_is;
    } in
    let carries : CarriesBody (body_limit side) (framing_at bytes headers head) carried body =
    subst (λ (f : Framing). CarriesBody (body_limit side) f carried body) (sym b.framing) (is_chunked, b.fits) in
    record {
      is_frame = whole side bytes carried body headers head end b.good (omega (arith, end_is)) front carries;
      within = record {
        start_fits = b.good.at.start_fits;
        lines_fit = b.good.at.lines_fit;
        ordered = omega (arith, end_is);
        end_fits = omega (arith, end_is, g.ends.within, g.at.within, b.within, length-drop len bytes, length-drop at rest, length-drop start behind);
      };
    }

request_some : (h : RequestHead) → 0 < length (print_request h)
unfolding print_request
request_some h = simp length-append (omega arith)

response_some : (h : ResponseHead) → 0 < length (print_response h)
unfolding print_response
response_some h = simp length-append (omega arith)

pub head_some : (side : Side) (text : List ℕ) (start : Start) (lines : List Line) → IsHead side text start lines → 0 < length text
head_some Request text start lines h = omega (arith, request_some h.head, ap length h.text_is)
head_some Reply text start lines h = omega (arith, response_some h.head, ap length h.text_is)

-- a frame has some bytes
pub some_bytes : (side : Side) (bytes : List ℕ) → NeedsBytes side bytes 1
some_bytes side bytes = record {
  at_least = λ more text rest frame f e.
      let head = head_some side f.head frame.start frame.lines f.head_is.is_head in
      let whole : length text ≡ length f.head + length f.carried = ap length f.bytes_are ∙ length-append f.head f.carried in
      omega arith;
}

-- how a look behind a head goes
pub ruleset behind_head_cases = (no_body, walked_none_yet, behind_walked)
