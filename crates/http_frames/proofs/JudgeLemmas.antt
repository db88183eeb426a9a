-- What a whole head or a whole chunk line says is judged before more is read.
use Rattle.std.proofs.Common.{◌≡◌, ℕ, ◌≤◌, List, ◌++◌, length, refl, sym, ap, subst, ◌∙◌, inl, inr}
use Rattle.httparse.specs.Grammar.{ChunkLine, print_chunk_line, chunk_size}
use Rattle.httparse.proofs.ChunkLemmas.{chunk_line_unique}
use Rattle.http_frames.specs.declared.frame.Side.{Side}
use Rattle.http_frames.specs.declared.frame.Start.{Start}
use Rattle.http_frames.specs.Lines.{Line}
use Rattle.http_frames.specs.Body.{Framing, framing_of, AnnouncesBody}
use Rattle.http_frames.specs.Chunks.{chunks_text}
use Rattle.http_frames.specs.Frame.{body_limit, IsHead, IsLimitedHead}
use Rattle.http_frames.specs.Waiting.{WholeHeadsAreJudged, WholeLinesAreJudged}
use Rattle.http_frames.proofs.FrameLemmas.{IsHead_unique}

-- the head is the one of which this is known
judged : (side : Side) (head other rest after : List ℕ) (start begin : Start) (lines rows : List Line) (framing : Framing)
    → IsHead side head start lines → IsLimitedHead side other begin rows → framing_of begin rows ≡ framing
    → AnnouncesBody (body_limit side) framing → head ++ rest ≡ other ++ after
    → IsLimitedHead side head start lines × AnnouncesBody (body_limit side) (framing_of start lines)
judged side head other rest after start begin lines rows framing h limited is fits e =
    let same = IsHead_unique side head other start begin lines rows rest after h limited.is_head e in (
      record {
        is_head = h;
        head_fits = subst (λ (t : List ℕ). length t ≤ 16384) (sym same.2) limited.head_fits;
        lines_fit = subst (λ (l : List Line). length l ≤ 64) (sym same.1) limited.lines_fit;
      },
      subst (AnnouncesBody (body_limit side)) (sym is ∙ sym (cc (same.0, same.1))) fits,
    )

pub whole_heads : WholeHeadsAreJudged
whole_heads side head rest start lines h unsettled = elim unsettled.1 [
  | inl lacks ↦ absurd (lacks.none.none head rest start lines h refl)
  | inr lacks ↦ elim lacks [
    | inl b ↦ judged side head b.head rest b.part start b.start lines b.lines _ h b.head_is b.framing b.body_fits b.bytes_are
    | inr c ↦ judged side head c.head rest (chunks_text c.chunks ++ c.part) start c.start lines c.lines _ h c.head_is c.framing tt c.bytes_are
  ]
]

pub whole_lines : WholeLinesAreJudged
whole_lines most line rest valid lacks = elim lacks [
  | inl none ↦ absurd (none.none line rest (valid, refl))
  | inr p ↦
      let same = chunk_line_unique (print_chunk_line line ++ rest) line p.line rest p.part (valid, refl) (p.announces.valid, p.text_is) in
      let size : chunk_size line ≡ p.announced = ap chunk_size same.0 ∙ p.announces.size in (
        record {
          valid = valid;
          fits = subst (λ (l : ChunkLine). length (print_chunk_line l) ≤ 256) (sym same.0) p.announces.fits;
          size = refl;
        },
        subst (λ (n : ℕ). n ≤ most) (sym size) p.fits,
      )
]
