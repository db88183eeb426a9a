use Rattle.std.proofs.Common.{◌≡◌, ◌<◌, ◌≤◌, length, get_or, map, refl, sym, ap, subst, ◌∙◌}
use Rattle.std.proofs.lemmas.List.{length-map, get_or-map}
use Rattle.httparse.specs.Spans.{IsWithin, IsHeaderWithin, header_bytes, span_bytes}
use Rattle.http_frames.specs.Lines.{is_same_name, IfOne}
use Rattle.http_frames.proofs.LinesLemmas.{ScansTo-same, ScansTo-other, ScansTo-end, IfOne-with}
use Rattle.http_frames.proofs.body.find_span.Goals as goal
use Rattle.http_frames.proofs.body.find_span.Goals.{then-is_same_name, else-is_same_name}

pub loop-header-preserved : goal.loop-header-preserved
loop-header-preserved c =
    let buf = c.args.buf.now in
    let headers = c.args.headers.now in
    let i = c.loop-header.header-index in
    let header = get_or headers i _ in
    let line = header_bytes buf header in
    let lines = map (header_bytes buf) headers in
    let inside : i < length lines = simp length-map c.loop-header-test.true in
    let is : line ≡ get_or lines i line = sym (get_or-map (header_bytes buf) headers i _ line c.loop-header-test.true) in
    let tested : c.is_same_name.result ≡ is_same_name line.0 c.args.name.now =
    c.is_same_name.ensures ∙ ap (λ t. is_same_name t c.args.name.now) c.of.ensures in
    let fits : IsHeaderWithin (length buf) header = c.requires i _ c.loop-header-test.true in
    elim c.if-is_same_name.branch [
      | then-is_same_name w ↦ record {
        scans = ScansTo-same (span_bytes buf) c.args.name.now lines i c.loop-header.found _ line header.value
            inside is (sym tested ∙ w.if-is_same_name.true)
            refl (w.found-is ∙ w.and-found.ensures) c.loop-header.invariant.scans;
        within = IfOne-with (IsWithin (length buf)) c.loop-header.found _ header.value (w.found-is ∙ w.and-found.ensures) fits.1;
      }
      | else-is_same_name w ↦ record {
        scans = ScansTo-other (span_bytes buf) c.args.name.now lines i c.loop-header.found _ line
            inside is (sym tested ∙ w.if-is_same_name.false)
            w.found-is c.loop-header.invariant.scans;
        within = subst (λ f. IfOne f (IsWithin (length buf))) (sym w.found-is) c.loop-header.invariant.within;
      }
    ]

pub returns-clause-found : goal.returns-clause-found
returns-clause-found c =
    let lines = map (header_bytes c.args.buf.now) c.args.headers.now in
    let past : length lines ≤ c.loop-header.header-index = simp length-map c.loop-header-test.false in
    ScansTo-end (span_bytes c.args.buf.now) c.args.name.now lines c.loop-header.header-index c.loop-header.found
    past c.loop-header.invariant.scans
