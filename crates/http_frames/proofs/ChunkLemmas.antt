-- What a look at the front of chunks says of the bytes, and of a body that they carry.
use Rattle.std.proofs.Common.{◌≡◌, ◌≢◌, ℕ, ◌+◌, ◌-◌, ◌<◌, ◌≤◌, ◌⊎◌, min, List, [], ◌∷◌, ◌++◌, length, take, drop, slice_range, get_or, refl, sym, ap, subst, ◌∙◌, inl, inr, arith, append_assoc}
use Rattle.std.specs.Prelude.{All}
use Rattle.std.proofs.Math.Seq.{get_or-append_seam}
use Rattle.std.proofs.lemmas.List.{take_at, drop_at, append-nil, length-append, length-take, length-drop, take-append-le, take-append-drop, drop-drop, take_all, take_more, drop_more, get_or_append_left, get_or-append-add, flat_map_more}
use Rattle.std.proofs.lemmas.Bool.{cases_lt}
use Rattle.std.proofs.lemmas.List.Elements.{All-nil, All-cons, All-append, All-head, All-tail}
use Rattle.httparse.specs.Ascii.{crlf_bytes}
use Rattle.httparse.specs.Grammar.{ChunkLine, print_chunk_line, HasNoChunkLine, MayBecomeChunkLine, NeverHasChunkLine}
use Rattle.httparse.specs.Spans.{IsChunkLineAt}
use Rattle.http_frames.specs.Chunks.{Announces, Chunk, chunk_text, chunks_text, chunks_body, IsChunk, LacksLine, LacksEnd, LacksPart}
use Rattle.http_frames.specs.ChunkLooks.{HasEnd, WaitsForEnd, ExcludesEnd, IsLineAt, GoesOn, GoesOnBy, WaitsForChunk, ExcludesChunk, AreChunksAt}
use Rattle.http_frames.proofs.FrameLemmas.{line_same, opened}

-- a front that is no longer than the first of two lists is a front of it
pub front_within : (xs more front rest : List ℕ) → xs ++ more ≡ front ++ rest → length front ≤ length xs
    → xs ≡ front ++ drop (length front) xs
front_within xs more front rest e short =
    let n = length front in
    let same : take n xs ≡ front = sym (take-append-le n xs more short) ∙ ap (take n) e ∙ take_at front rest n refl in
    sym (take-append-drop n xs) ∙ ap (λ t. t ++ drop n xs) same

-- ---- some bytes and CR LF

crlf_length : (rest : List ℕ) → length (crlf_bytes ++ rest) ≡ length rest + 2
crlf_length rest = omega arith

-- where some of the bytes are lacking, they and CR LF aren't there
lacks_short : (n : ℕ) (text part rest : List ℕ) → LacksEnd n text → length part ≡ n → text ≡ part ++ (crlf_bytes ++ rest) → ⊥
lacks_short n text part rest (inl few) len e =
    absurd (omega (arith, ap length e, length-append part (crlf_bytes ++ rest), crlf_length rest))
lacks_short n text part rest (inr front) len e =
    absurd (omega (arith, front.1, ap length front.2, length-append front.0 (13 ∷ []), ap length e, length-append part (crlf_bytes ++ rest), crlf_length rest))

-- the bytes aren't all there
pub end_later : (text : List ℕ) (n : ℕ) → length text ≤ n → WaitsForEnd text n (n + 1)
end_later text n short = record {
  more_wanted = omega arith;
  most = omega arith;
  lacks = λ more few. inl (omega arith);
}

-- another byte stands where CR is wanted
pub end_no_cr : (text : List ℕ) (n : ℕ) → n < length text → get_or text n 0 ≢ 13 → ExcludesEnd text n
end_no_cr text n inside other = record {
  none = λ more part rest len e.
      let cr : get_or (part ++ (crlf_bytes ++ rest)) n 0 ≡ 13 =
      ap (λ k. get_or (part ++ (crlf_bytes ++ rest)) k 0) (sym len) ∙ get_or-append_seam part 13 (10 ∷ rest) 0 in
      other (sym (get_or_append_left text more 0 n inside) ∙ ap (λ t. get_or t n 0) e ∙ cr);
}

-- CR is there, and nothing behind it
pub end_cr : (text : List ℕ) (n : ℕ) → length text ≡ n + 1 → get_or text n 0 ≡ 13 → WaitsForEnd text n (n + 2)
end_cr text n len cr =
    let is : text ≡ take n text ++ 13 ∷ [] =
    sym (take_all (n + 1) text (omega arith)) ∙ take_more text n 0 (omega arith) ∙ ap (λ b. take n text ++ b ∷ []) cr in
    let front : length (take n text) ≡ n = length-take n text ∙ omega arith in
    record {
      more_wanted = omega arith;
      most = omega arith;
      lacks = λ more. elim more as (λ m. length (text ++ m) < n + 2 → LacksEnd n (text ++ m)) [
        | [] ↦ λ few. subst (LacksEnd n) (sym (append-nil text)) (inr (take n text, front, is))
        | x ∷ xs ↦ λ few. absurd (omega (arith, length-append text (x ∷ xs)))
      ];
    }

-- another byte stands where LF is wanted
pub end_no_lf : (text : List ℕ) (n : ℕ) → n + 1 < length text → get_or text (n + 1) 0 ≢ 10 → ExcludesEnd text n
end_no_lf text n inside other = record {
  none = λ more part rest len e.
      let lf : get_or (part ++ (crlf_bytes ++ rest)) (n + 1) 0 ≡ 10 =
      ap (λ k. get_or (part ++ (crlf_bytes ++ rest)) (k + 1) 0) (sym len) ∙ get_or-append-add part (crlf_bytes ++ rest) 1 0 in
      other (sym (get_or_append_left text more 0 (n + 1) inside) ∙ ap (λ t. get_or t (n + 1) 0) e ∙ lf);
}

-- both are there
pub end_whole : (text : List ℕ) (n : ℕ) → n + 1 < length text → get_or text n 0 ≡ 13 → get_or text (n + 1) 0 ≡ 10 → HasEnd text n
end_whole text n inside cr lf =
    let behind : n + 1 + 1 ≡ n + 2 = omega arith in
    let two : drop n text ≡ crlf_bytes ++ drop (n + 2) text =
    drop_more text n 0 (omega arith) ∙ ap (λ b. b ∷ drop (n + 1) text) cr
    ∙ ap (λ t. 13 ∷ t) (drop_more text (n + 1) 0 inside ∙ ap (λ b. b ∷ drop (n + 1 + 1) text) lf ∙ ap (λ k. 10 ∷ drop k text) behind) in
    record {
      text_is = sym (take-append-drop n text) ∙ ap (λ t. take n text ++ t) two;
      within = omega arith;
    }

-- ---- a chunk line

pub front_is : (text : List ℕ) → take (min (length text) 256) text ≡ take 256 text
front_is text = elim (cases_lt 256 (length text)) [
  | inl long ↦ let all : min (length text) 256 ≡ 256 = omega arith in ap (λ k. take k text) all
  | inr short ↦ take_all (min (length text) 256) text (omega arith) ∙ sym (take_all 256 text short)
]

-- the first bytes and what stands behind them
parts_of : (text more : List ℕ) → take 256 text ++ (drop 256 text ++ more) ≡ text ++ more
parts_of text more = sym (append_assoc (take 256 text) (drop 256 text) more) ∙ ap (λ t. t ++ more) (take-append-drop 256 text)

-- a line was found
pub line_found : (text : List ℕ) (len size : ℕ) (l : ChunkLine) → IsChunkLineAt (take 256 text) len size l → IsLineAt text len size
line_found text len size l at =
    let front = take 256 text in
    let rest = drop len front ++ drop 256 text in
    let whole : text ≡ print_chunk_line l ++ rest =
    sym (take-append-drop 256 text) ∙ ap (λ t. t ++ drop 256 text) at.reads.1
    ∙ append_assoc (print_chunk_line l) (drop len front) (drop 256 text) in
    let few : length (print_chunk_line l) ≤ 256 =
    omega (arith, ap length at.reads.1, length-append (print_chunk_line l) (drop len front), length-take 256 text) in
    record {
      line = l;
      announces = record { valid = at.reads.0; fits = few; size = sym at.size_is };
      start_is = at.len_is;
      text_is = whole ∙ ap (λ t. print_chunk_line l ++ t) (sym (ap (drop len) whole ∙ drop_at (print_chunk_line l) rest len (sym at.len_is)));
      within = omega (arith, at.len_is, ap length whole, length-append (print_chunk_line l) rest);
    }

-- the line that was found is that of what begins there
record IsThatLine (most : ℕ) (text more : List ℕ) (start size : ℕ) (part rest : List ℕ) : Type 0 where
  size_is : size ≡ length part
  behind : drop start text ++ more ≡ part ++ (crlf_bytes ++ rest)

that_line : (most : ℕ) (text more : List ℕ) (start size : ℕ) → IsLineAt text start size → (g : GoesOn most (text ++ more))
    → IsThatLine most text more start size g.part g.rest
that_line most text more start size at g =
    let here : print_chunk_line at.line ++ (drop start text ++ more) ≡ print_chunk_line g.line ++ (g.part ++ (crlf_bytes ++ g.rest)) =
    sym (append_assoc (print_chunk_line at.line) (drop start text) more) ∙ ap (λ t. t ++ more) (sym at.text_is) ∙ g.text_is in
    let same = line_same at.line g.line size (length g.part) (drop start text ++ more) (g.part ++ (crlf_bytes ++ g.rest)) at.announces g.announces here in
    record { size_is = same.1; behind = same.2 }

-- it announces too much
pub size_too_large : (most : ℕ) (text : List ℕ) (start size : ℕ) → IsLineAt text start size → most < size → ExcludesChunk most text
size_too_large most text start size at large = record {
  none = λ more g.
      let that = that_line most text more start size at g in
      absurd (omega (arith, that.size_is, g.fits));
}

-- what has to follow can't
pub behind_excluded : (most : ℕ) (text : List ℕ) (start size : ℕ) → IsLineAt text start size → ExcludesEnd (drop start text) size
    → ExcludesChunk most text
behind_excluded most text start size at never = record {
  none = λ more g.
      let that = that_line most text more start size at g in
      never.none more g.part g.rest (sym that.size_is) that.behind;
}

-- it is there
pub found_end : (text : List ℕ) (start size : ℕ) → IsLineAt text start size → HasEnd (drop start text) size → size ≡ 0 → GoesOnBy text start 0
found_end text start size at ends none = subst (λ (n : ℕ). GoesOnBy text start n) none (record { at = at; ends = ends })

pub found_chunk : (text : List ℕ) (start size : ℕ) → IsLineAt text start size → HasEnd (drop start text) size → GoesOnBy text start size
found_chunk text start size at ends = record { at = at; ends = ends }

-- it may still come
pub behind_waits : (most : ℕ) (text : List ℕ) (start size need : ℕ) → IsLineAt text start size → size ≤ most
    → WaitsForEnd (drop start text) size need → WaitsForChunk most text (start + need)
behind_waits most text start size need at fits waits =
    let rest = drop start text in
    let count : length text ≡ start + length rest = omega (arith, length-drop start text, at.within) in
    let short : (more : List ℕ) → length (text ++ more) < start + need → length (rest ++ more) < need =
    λ more few. omega (arith, length-append text more, length-append rest more) in
    record {
      more_wanted = omega (arith, waits.more_wanted);
      most_wanted = omega (arith, waits.most, at.announces.fits, at.start_is);
      none = λ more few g.
          let that = that_line most text more start size at g in
          lacks_short size (rest ++ more) g.part g.rest (waits.lacks more (short more few)) (sym that.size_is) that.behind;
      lacks = λ more few. inr (record {
        line = at.line;
        announced = size;
        part = rest ++ more;
        announces = at.announces;
        fits = fits;
        text_is = ap (λ t. t ++ more) at.text_is ∙ append_assoc (print_chunk_line at.line) rest more;
        lacks = waits.lacks more (short more few);
      });
    }

-- no line is there yet
pub line_waits : (most : ℕ) (text : List ℕ) → HasNoChunkLine (take 256 text) → MayBecomeChunkLine (take 256 text) → length text < 256
    → WaitsForChunk most text (length text + 1)
line_waits most text none may few =
    let all : take 256 text ≡ text = take_all 256 text (omega arith) in
    let none_here : HasNoChunkLine text = subst (λ (t : List ℕ). HasNoChunkLine t) all none in
    let may_here : MayBecomeChunkLine text = subst (λ (t : List ℕ). MayBecomeChunkLine t) all may in
    record {
      more_wanted = omega arith;
      most_wanted = omega arith;
      none = λ more. elim more as (λ m. length (text ++ m) < length text + 1 → GoesOn most (text ++ m) → ⊥) [
        | [] ↦ λ short g. none_here g.line (g.part ++ (crlf_bytes ++ g.rest)) (g.announces.valid, sym (append-nil text) ∙ g.text_is)
        | x ∷ xs ↦ λ short. absurd (omega (arith, length-append text (x ∷ xs)))
      ];
      lacks = λ more. elim more as (λ m. length (text ++ m) < length text + 1 → LacksLine (text ++ m) ⊎ LacksPart most (text ++ m)) [
        | [] ↦ λ short. subst (λ t. LacksLine t ⊎ LacksPart most t) (sym (append-nil text)) (inl (record { few = few; none = none_here; may = may_here }))
        | x ∷ xs ↦ λ short. absurd (omega (arith, length-append text (x ∷ xs)))
      ];
    }

-- none is there in as many bytes as one may have
pub line_too_long : (most : ℕ) (text : List ℕ) → HasNoChunkLine (take 256 text) → 256 ≤ length text → ExcludesChunk most text
line_too_long most text none long = record {
  none = λ more g.
      let behind = g.part ++ (crlf_bytes ++ g.rest) in
      let inside : length (print_chunk_line g.line) ≤ length (take 256 text) = omega (arith, g.announces.fits, length-take 256 text) in
      none g.line _ (g.announces.valid, front_within (take 256 text) (drop 256 text ++ more) (print_chunk_line g.line) behind (parts_of text more ∙ g.text_is) inside);
}

-- none can be there
pub line_never : (most : ℕ) (text : List ℕ) → NeverHasChunkLine (take 256 text) → ExcludesChunk most text
line_never most text never = record {
  none = λ more g. never (drop 256 text ++ more) g.line (g.part ++ (crlf_bytes ++ g.rest)) (g.announces.valid, parts_of text more ∙ g.text_is);
}

-- ---- chunks that were walked

-- a chunk lies within the bytes
pub chunk_within : (bytes : List ℕ) (at start size : ℕ) → GoesOnBy (drop at bytes) start size → at ≤ length bytes
    → at + (start + size + 2) ≤ length bytes
chunk_within bytes at start size g within =
    omega (arith, g.ends.within, g.at.within, length-drop at bytes, length-drop start (drop at bytes))

-- none were
pub walked_none : (bytes : List ℕ) → AreChunksAt bytes 0 []
walked_none bytes = record { chunks = []; each = All-nil IsChunk; bytes_are = refl; at_is = refl; body_is = refl }

-- one more was
pub walked_on : (bytes body : List ℕ) (at start size from : ℕ) → AreChunksAt bytes at body → GoesOnBy (drop at bytes) start size → 0 < size
    → from ≡ at + start → AreChunksAt bytes (from + size + 2) (body ++ slice_range bytes from (from + size))
walked_on bytes body at start size from w g some from_is =
    let rest = drop at bytes in
    let part = take size (drop start rest) in
    let line = print_chunk_line g.at.line in
    let next = from + size + 2 in
    let behind = drop (size + 2) (drop start rest) in
    let len : length part ≡ size = length-take size (drop start rest) ∙ omega (arith, g.ends.within) in
    let chunk : Chunk = record { line = g.at.line; part = part } in
    let text = chunk_text chunk in
    let before = chunks_text w.chunks in
    let next_is : at + (start + (size + 2)) ≡ next = omega arith in
    let behind_is : behind ≡ drop next bytes =
    drop-drop (size + 2) start rest ∙ drop-drop (start + (size + 2)) at bytes ∙ ap (λ k. drop k bytes) next_is in
    let rest_is : rest ≡ text ++ behind =
    g.at.text_is ∙ ap (λ t. line ++ t) (g.ends.text_is ∙ sym (append_assoc part crlf_bytes behind))
    ∙ sym (append_assoc line (part ++ crlf_bytes) behind) in
    let all : before ++ text ≡ chunks_text (w.chunks ++ chunk ∷ []) = flat_map_more chunk_text [] w.chunks chunk in
    let is : IsChunk chunk = (subst (Announces g.at.line) (sym len) g.at.announces, omega arith) in
    let width : from + size - from ≡ size = omega arith in
    let part_is : slice_range bytes from (from + size) ≡ part =
    (λ i. take (width i) (drop (from_is i) bytes)) ∙ ap (take size) (sym (drop-drop start at bytes)) in
    record {
      chunks = w.chunks ++ chunk ∷ [];
      each = All-append IsChunk w.chunks (chunk ∷ []) w.each (All-cons IsChunk chunk [] is (All-nil IsChunk));
      bytes_are = w.bytes_are ∙ ap (λ t. before ++ t) (rest_is ∙ ap (λ t. text ++ t) behind_is)
          ∙ sym (append_assoc before text (drop next bytes)) ∙ ap (λ t. t ++ drop next bytes) all;
      at_is = omega (arith, w.at_is, len, from_is, g.at.start_is, ap length (sym all), length-append before text, length-append line (part ++ crlf_bytes), length-append part crlf_bytes);
      body_is = (λ i. w.body_is i ++ part_is i) ∙ flat_map_more (λ (c : Chunk). c.part) [] w.chunks chunk;
    }

-- what stands behind them where they and others carry a body
pub goes_on : (limit : ℕ) (ws cs : List Chunk) (l : ChunkLine) (z q : List ℕ) → All IsChunk ws → All IsChunk cs → Announces l 0
    → chunks_text ws ++ z ≡ chunks_text cs ++ (print_chunk_line l ++ (crlf_bytes ++ q)) → length (chunks_body cs) ≤ limit
    → GoesOn (limit - length (chunks_body ws)) z
goes_on limit [] [] l z q us vs a e fits =
    record { line = l; part = []; rest = q; announces = a; fits = omega arith; text_is = e }
goes_on limit [] (c ∷ cs) l z q us vs a e fits =
    let one = All-head IsChunk c cs vs in
    let later = print_chunk_line l ++ (crlf_bytes ++ q) in
    record {
      line = c.line;
      part = c.part;
      rest = chunks_text cs ++ later;
      announces = one.0;
      fits = omega (arith, length-append c.part (chunks_body cs));
      text_is = e ∙ opened c cs later;
    }
goes_on limit (w ∷ ws) [] l z q us vs a e fits =
    let one = All-head IsChunk w ws us in
    let s = line_same w.line l (length w.part) 0 (w.part ++ (crlf_bytes ++ (chunks_text ws ++ z))) (crlf_bytes ++ q) one.0 a
    (sym (opened w ws z) ∙ e) in
    absurd (omega (arith, s.1, one.1))
goes_on limit (w ∷ ws) (c ∷ cs) l z q us vs a e fits =
    let here = All-head IsChunk w ws us in
    let there = All-head IsChunk c cs vs in
    let later = print_chunk_line l ++ (crlf_bytes ++ q) in
    let n = length c.part in
    let ours = crlf_bytes ++ (chunks_text ws ++ z) in
    let theirs = crlf_bytes ++ (chunks_text cs ++ later) in
    let s = line_same w.line c.line (length w.part) n (w.part ++ ours) (c.part ++ theirs) here.0 there.0
    (sym (opened w ws z) ∙ e ∙ opened c cs later) in
    let behind : ours ≡ theirs = sym (drop_at w.part ours n s.1) ∙ ap (drop n) s.2 ∙ drop_at c.part theirs n refl in
    let more = goes_on (limit - n) ws cs l z q (All-tail IsChunk w ws us) (All-tail IsChunk c cs vs) a (ap (drop 2) behind)
    (omega (arith, length-append c.part (chunks_body cs))) in
    let most : limit - n - length (chunks_body ws) ≡ limit - length (chunks_body (w ∷ ws)) =
    omega (arith, s.1, length-append w.part (chunks_body ws)) in
    subst (λ m. GoesOn m z) most more

-- how a look for an end goes
pub ruleset end_cases = (end_later, end_no_cr, end_cr, end_no_lf, end_whole)

-- how a look behind a chunk line goes
pub ruleset behind_line_cases = (found_chunk, found_end, behind_waits, behind_excluded)

-- how a look goes where no chunk line is found
pub ruleset no_line_cases = (line_waits, line_too_long)

-- a chunk that is passed
pub ruleset passing = (chunk_within, walked_on)
