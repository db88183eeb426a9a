use Rattle.std.proofs.Common.{ℕ, List, subst}
use Rattle.httparse.specs.Grammar.{NeverHasChunkLine}
use Rattle.httparse.specs.Spans.{IsChunkLineAt}
use Rattle.http_frames.proofs.ChunkLemmas.{line_found, line_never}
use Rattle.http_frames.proofs.chunks.look_for_chunk.Goals as goal

pub look_at_line-requires-clause-line : goal.look_at_line-requires-clause-line
look_at_line-requires-clause-line c =
    let h = rw c.in-Ok-Complete.field-0-is at c.in-Ok-Complete.ensures.complete in
    let at = subst (λ (t : List ℕ). IsChunkLineAt t c.in-Ok-Complete.start c.in-Ok-Complete.size h.0) c.front_of.ensures h.1 in
    line_found c.args.text.now c.in-Ok-Complete.start c.in-Ok-Complete.size h.0 at

pub returns-in-Err : goal.returns-in-Err
returns-in-Err c =
    line_never c.args.most c.args.text.now (subst (λ (t : List ℕ). NeverHasChunkLine t) c.front_of.ensures c.in-Err.ensures.invalid)
