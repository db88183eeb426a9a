-- A frame's bytes tell where it ends, so a stream has one list of frames.
use Rattle.std.specs.Prelude.{All, ◌≤◌, ◌*◌}
use Rattle.std.proofs.lemmas.List.Elements.{All-head, All-tail}
use Rattle.httparse.specs.Ascii.{crlf_bytes}
use Rattle.std.proofs.Common.{◌≡◌, arith, ℕ, List, [], ◌∷◌, ◌++◌, length, take, drop, refl, sym, ap, subst, ◌∙◌, append_assoc}
use Rattle.std.proofs.lemmas.List.{take_at, drop_at, append-nil, length-append}
use Rattle.httparse.proofs.GrammarLemmas.{request_unique, response_unique}
use Rattle.http_frames.specs.declared.frame.Side.{Side}
use Rattle.http_frames.specs.declared.frame.Side.TheVariants.{Request, Reply}
use Rattle.http_frames.specs.declared.frame.Start.{Start}
use Rattle.http_frames.specs.declared.frame.Frame.{Frame}
use Rattle.http_frames.specs.Lines.{Line}
use Rattle.http_frames.specs.Body.{Framing, counted, chunked, refused, framing_of, CarriesBody}
use Rattle.http_frames.specs.Chunks.{Announces, Chunk, chunk_text, chunks_text, chunks_body, IsChunk, IsChunked}
use Rattle.httparse.specs.Grammar.{ChunkLine, print_chunk_line, chunk_size}
use Rattle.httparse.proofs.ChunkLemmas.{chunk_line_unique}
use Rattle.http_frames.specs.Frame.{IsHead, IsFrame, body_limit}
use Rattle.http_frames.specs.Stream.{BeginsWithFrame, BeginsWithFrames, FramesAreUnique, NoFrameBeginsAnother}

-- two heads at the front of one stream are one head, with one rest
pub IsHead_unique : (side : Side) (text other : List ℕ) (start begin : Start) (lines rows : List Line)
    (rest after : List ℕ) → IsHead side text start lines → IsHead side other begin rows → text ++ rest ≡ other ++ after
    → (start ≡ begin) × (lines ≡ rows) × (text ≡ other) × (rest ≡ after)
IsHead_unique Request text other start begin lines rows rest after a b e =
    let same = request_unique (text ++ rest) a.head b.head rest after (a.valid, ap (λ t. t ++ rest) a.text_is)
    (b.valid, e ∙ ap (λ t. t ++ after) b.text_is) in
    let head = same.0 in
    (cc (a.start_is, b.start_is, head), cc (a.lines_are, b.lines_are, head), cc (a.text_is, b.text_is, head), same.1)
IsHead_unique Reply text other start begin lines rows rest after a b e =
    let same = response_unique (text ++ rest) a.head b.head rest after (a.valid, ap (λ t. t ++ rest) a.text_is)
    (b.valid, e ∙ ap (λ t. t ++ after) b.text_is) in
    let head = same.0 in
    (cc (a.start_is, b.start_is, head), cc (a.lines_are, b.lines_are, head), cc (a.text_is, b.text_is, head), same.1)

-- one chunk line stands at the front of a text, and says one number
pub line_same : (l k : ChunkLine) (n m : ℕ) (r q : List ℕ) → Announces l n → Announces k m
    → print_chunk_line l ++ r ≡ print_chunk_line k ++ q → (l ≡ k) × (n ≡ m) × (r ≡ q)
line_same l k n m r q a b e =
    let same = chunk_line_unique (print_chunk_line l ++ r) l k r q (a.valid, refl) (b.valid, e) in
    (same.0, sym a.size ∙ ap chunk_size same.0 ∙ b.size, same.1)

-- chunks and a last line, opened behind the first chunk line
pub opened : (c : Chunk) (cs : List Chunk) (rest : List ℕ)
    → chunks_text (c ∷ cs) ++ rest
    ≡ print_chunk_line c.line ++ (c.part ++ (crlf_bytes ++ (chunks_text cs ++ rest)))
opened c cs rest = simp append_assoc

-- chunks and a last line stand at the front of a text in one way
chunks_same : (cs ds : List Chunk) (l k : ChunkLine) (r q : List ℕ) → All IsChunk cs → All IsChunk ds → Announces l 0 → Announces k 0
    → chunks_text cs ++ (print_chunk_line l ++ r) ≡ chunks_text ds ++ (print_chunk_line k ++ q)
    → (cs ≡ ds) × (l ≡ k) × (r ≡ q)
chunks_same [] [] l k r q us vs a b e = let s = line_same l k 0 0 r q a b e in (refl, s.0, s.2)
chunks_same [] (d ∷ ds) l k r q us vs a b e =
    let one = All-head IsChunk d ds vs in
    let later = print_chunk_line k ++ q in
    let s = line_same l d.line 0 (length d.part) r (d.part ++ (crlf_bytes ++ (chunks_text ds ++ later))) a one.0 (e ∙ opened d ds later) in
    absurd (omega (arith, s.1, one.1))
chunks_same (c ∷ cs) [] l k r q us vs a b e =
    let one = All-head IsChunk c cs us in
    let later = print_chunk_line l ++ r in
    let s = line_same k c.line 0 (length c.part) q (c.part ++ (crlf_bytes ++ (chunks_text cs ++ later))) b one.0 (sym e ∙ opened c cs later) in
    absurd (omega (arith, s.1, one.1))
chunks_same (c ∷ cs) (d ∷ ds) l k r q us vs a b e =
    let here = All-head IsChunk c cs us in
    let there = All-head IsChunk d ds vs in
    let n = length d.part in
    let ours = crlf_bytes ++ (chunks_text cs ++ (print_chunk_line l ++ r)) in
    let theirs = crlf_bytes ++ (chunks_text ds ++ (print_chunk_line k ++ q)) in
    let s = line_same c.line d.line (length c.part) n (c.part ++ ours) (d.part ++ theirs) here.0 there.0
    (sym (opened c cs (print_chunk_line l ++ r)) ∙ e ∙ opened d ds (print_chunk_line k ++ q)) in
    let part : c.part ≡ d.part = sym (take_at c.part ours n s.1) ∙ ap (take n) s.2 ∙ take_at d.part theirs n refl in
    let behind : ours ≡ theirs = sym (drop_at c.part ours n s.1) ∙ ap (drop n) s.2 ∙ drop_at d.part theirs n refl in
    let more = chunks_same cs ds l k r q (All-tail IsChunk c cs us) (All-tail IsChunk d ds vs) a b (ap (drop 2) behind) in
    (λ i. record { line = s.0 i; part = part i } ∷ more.0 i, more.1, more.2)

-- the bytes of a chunked body tell where it ends, and what it is
pub IsChunked_unique : (a b x y r q : List ℕ)
    → IsChunked a x → IsChunked b y → a ++ r ≡ b ++ q → (a ≡ b) × (x ≡ y) × (r ≡ q)
IsChunked_unique a b x y r q s t e =
    let apart : (c : List ℕ) (cs : List Chunk) (l : ChunkLine) (z : List ℕ) → c ≡ chunks_text cs ++ (print_chunk_line l ++ crlf_bytes)
    → c ++ z ≡ chunks_text cs ++ (print_chunk_line l ++ (crlf_bytes ++ z)) =
    λ c cs l z is. ap (λ t. t ++ z) is ∙ simp append_assoc in
    let same = chunks_same s.chunks t.chunks s.last t.last (crlf_bytes ++ r) (crlf_bytes ++ q) s.each t.each s.ends t.ends
    (sym (apart a s.chunks s.last r s.carried_is) ∙ e ∙ apart b t.chunks t.last q t.carried_is) in (
      s.carried_is ∙ (λ i. chunks_text (same.0 i) ++ (print_chunk_line (same.1 i) ++ crlf_bytes)) ∙ sym t.carried_is,
      s.body_is ∙ ap chunks_body same.0 ∙ sym t.body_is,
      ap (drop 2) same.2,
    )

-- the head tells how the body is carried
pub CarriesBody_unique : (limit : ℕ) (framing : Framing) (a b x y r q : List ℕ)
    → CarriesBody limit framing a x → CarriesBody limit framing b y → a ++ r ≡ b ++ q → (a ≡ b) × (x ≡ y) × (r ≡ q)
CarriesBody_unique limit (counted n) a b x y r q s t e =
    let here : length a ≡ n = ap length s.0 ∙ s.1 in
    let there : length b ≡ n = ap length t.0 ∙ t.1 in
    let front : a ≡ b = sym (take_at a r n here) ∙ ap (take n) e ∙ take_at b q n there in
    (front, cc, sym (drop_at a r n here) ∙ ap (drop n) e ∙ drop_at b q n there)
CarriesBody_unique limit chunked a b x y r q s t e = IsChunked_unique a b x y r q s.0 t.0 e
CarriesBody_unique limit refused a b x y r q s t e = absurd s

frame_same : (f g : Frame) → f.start ≡ g.start → f.lines ≡ g.lines → f.body ≡ g.body → f ≡ g
frame_same f g s l b = λ i. record { start = s i; lines = l i; body = b i }

-- chunks have few bytes beside those of the body
pub chunks_length : (cs : List Chunk) → All IsChunk cs
    → length (chunks_text cs) ≤ length (chunks_body cs) * 259
chunks_length [] all = omega arith
chunks_length (c ∷ cs) all =
    let one = All-head IsChunk c cs all in
    omega (arith, one.0.fits, one.1, length-append (chunk_text c) (chunks_text cs), length-append (print_chunk_line c.line) (c.part ++ crlf_bytes), length-append c.part crlf_bytes, length-append c.part (chunks_body cs), chunks_length cs (All-tail IsChunk c cs all))

-- two frames at the front of one stream are one frame, with one rest
pub IsFrame_unique : (side : Side) (bytes other : List ℕ) (f g : Frame) (r q : List ℕ)
    → IsFrame side bytes f → IsFrame side other g → bytes ++ r ≡ other ++ q → (bytes ≡ other) × (f ≡ g) × (r ≡ q)
IsFrame_unique side bytes other f g r q a b e =
    let whole : a.head ++ (a.carried ++ r) ≡ b.head ++ (b.carried ++ q) =
    sym (append_assoc a.head a.carried r) ∙ ap (λ t. t ++ r) (sym a.bytes_are) ∙ e
    ∙ ap (λ t. t ++ q) b.bytes_are ∙ append_assoc b.head b.carried q in
    let heads = IsHead_unique side a.head b.head f.start g.start f.lines g.lines (a.carried ++ r) (b.carried ++ q)
    a.head_is.is_head b.head_is.is_head whole in
    let framing : framing_of f.start f.lines ≡ framing_of g.start g.lines = λ i. framing_of (heads.0 i) (heads.1 i) in
    let carries = subst (λ (framed : Framing). CarriesBody (body_limit side) framed a.carried f.body) framing a.body in
    let bodies = CarriesBody_unique (body_limit side) (framing_of g.start g.lines) a.carried b.carried f.body g.body r q
    carries b.body heads.3 in
    (a.bytes_are ∙ cc (heads.2, bodies.0) ∙ sym b.bytes_are, frame_same f g heads.0 heads.1 bodies.1, bodies.2)

pub BeginsWith_unique : (side : Side) (stream : List ℕ) (f g : Frame) (r q : List ℕ)
    → BeginsWithFrame side stream f r → BeginsWithFrame side stream g q → (f ≡ g) × (r ≡ q)
BeginsWith_unique side stream f g r q a b =
    let same = IsFrame_unique side a.bytes b.bytes f g r q a.is_frame b.is_frame (sym a.stream_is ∙ b.stream_is) in
    (same.1, same.2)

-- what follows the stream follows the rest
pub BeginsWithFrame-append : (side : Side) (stream : List ℕ) (f : Frame) (rest more : List ℕ)
    → BeginsWithFrame side stream f rest → BeginsWithFrame side (stream ++ more) f (rest ++ more)
BeginsWithFrame-append side stream f rest more a = record {
  bytes = a.bytes;
  is_frame = a.is_frame;
  stream_is = ap (λ t. t ++ more) a.stream_is ∙ append_assoc a.bytes rest more;
}

pub Frames_unique : FramesAreUnique
Frames_unique side stream [] [] rest other a b = (refl, sym a.0 ∙ b.0)
Frames_unique side stream [] (g ∷ gs) rest other a b = absurd (a.1 g b.0.0 (subst (λ (s : List ℕ). BeginsWithFrame side s g b.0.0) a.0 b.0.1))
Frames_unique side stream (f ∷ fs) [] rest other a b = absurd (b.1 f a.0.0 (subst (λ (s : List ℕ). BeginsWithFrame side s f a.0.0) b.0 a.0.1))
Frames_unique side stream (f ∷ fs) (g ∷ gs) rest other a b =
    let first = BeginsWith_unique side stream f g a.0.0 b.0.0 a.0.1 b.0.1 in
    let later = Frames_unique side b.0.0 fs gs rest other
    (subst (λ (s : List ℕ). BeginsWithFrames side s fs rest) first.1 a.0.2, a.1) (b.0.2, b.1) in
    (cc (first.0, later.0), later.1)

pub frame_ends : NoFrameBeginsAnother
frame_ends side bytes more f g a b =
    let same = IsFrame_unique side bytes (bytes ++ more) f g more [] a b (sym (append-nil (bytes ++ more))) in
    (same.2, same.1)
