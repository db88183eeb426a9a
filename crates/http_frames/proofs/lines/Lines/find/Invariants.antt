use Rattle.std.proofs.Common.{Bor, List, ℕ}
use Rattle.http_frames.proofs.LinesLemmas.{ScansTo}
use Rattle.http_frames.proofs.lines.Lines.find.Given as goal

abbrev pub invariant-loop-line : goal.invariant-loop-line
invariant-loop-line l = ScansTo (λ (v : Bor (List ℕ)). v.now) l.name l.line-items l.line-index l.found
