use Rattle.std.proofs.Common.{map, length}
use Rattle.httparse.specs.Spans.{IsWithin, header_bytes, span_bytes}
use Rattle.http_frames.specs.Lines.{IfOne}
use Rattle.http_frames.proofs.LinesLemmas.{ScansTo}
use Rattle.http_frames.proofs.body.find_span.Given as goal

abbrev pub invariant-loop-header : goal.invariant-loop-header
invariant-loop-header l = record {
  scans : ScansTo (span_bytes l.buf) l.name (map (header_bytes l.buf) l.headers) l.header-index l.found;
  within : IfOne l.found (IsWithin (length l.buf));
}
