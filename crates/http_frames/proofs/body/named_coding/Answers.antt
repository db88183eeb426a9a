use Rattle.std.proofs.Common.{◌≡◌, codes, ap, ◌∙◌}
use Rattle.std.specs.Prelude.{if◌then◌else◌}
use Rattle.httparse.specs.Spans.{span_bytes}
use Rattle.http_frames.specs.Lines.{is_same_name}
use Rattle.http_frames.specs.Body.{chunked, refused}
use Rattle.http_frames.proofs.LinesLemmas.{is_same_name_from}
use Rattle.http_frames.proofs.BodyLemmas.{coding_refused, coding_is}
use Rattle.http_frames.proofs.body.named_coding.Goals as goal
use Rattle.http_frames.proofs.body.named_coding.Goals.{else-minor-eq1-via-then-minor-eq1+else-eq_ignore_ascii_case, else-minor-eq1-via-else-minor-eq1}

pub returns-then-eq_ignore_ascii_case : goal.returns-then-eq_ignore_ascii_case
returns-then-eq_ignore_ascii_case c =
    let value = span_bytes c.args.buf.now c.args.coding in
    let asked : c.eq_ignore_ascii_case.result ≡ is_same_name value (codes "chunked") =
    is_same_name_from c.eq_ignore_ascii_case.result c.of.result.now (codes "chunked") c.eq_ignore_ascii_case.ensures.test
    ∙ ap (λ t. is_same_name t (codes "chunked")) c.of.ensures in
    coding_is c.args.minor value c.eq_ignore_ascii_case.result c.if-minor-eq1.true asked
    ∙ (λ i. if (c.if-eq_ignore_ascii_case.true i) then chunked else refused)

pub returns-else-minor-eq1 : goal.returns-else-minor-eq1
returns-else-minor-eq1 c =
    let value = span_bytes c.args.buf.now c.args.coding in
    elim c.else-minor-eq1.branch [
      | else-minor-eq1-via-then-minor-eq1+else-eq_ignore_ascii_case w ↦
          let asked : w.eq_ignore_ascii_case.result ≡ is_same_name value (codes "chunked") =
          is_same_name_from w.eq_ignore_ascii_case.result w.of.result.now (codes "chunked") w.eq_ignore_ascii_case.ensures.test
          ∙ ap (λ t. is_same_name t (codes "chunked")) w.of.ensures in
          coding_is c.args.minor value w.eq_ignore_ascii_case.result w.if-minor-eq1.true asked
          ∙ (λ i. if (w.if-eq_ignore_ascii_case.false i) then chunked else refused)
      | else-minor-eq1-via-else-minor-eq1 w ↦ coding_refused c.args.minor value w.if-minor-eq1.false
    ]
