use Rattle.std.proofs.Common.{ℕ, List, Bor, ap, ◌∙◌}
use Rattle.http_frames.specs.Lines.{found_as, found_with_line}
use Rattle.http_frames.proofs.LinesLemmas.{ScansTo-next, ScansTo-end}
use Rattle.http_binding.specs.Headers.{field_name}
use Rattle.http_binding.specs.declared.headers.Field.TheVariants as fields
use Rattle.http_binding.proofs.headers.field_lines.Goals as goal

pub loop-line-preserved : goal.loop-line-preserved
loop-line-preserved c =
    let now : Bor (List ℕ) → List ℕ = λ v. v.now in
    let lines = c.args.lines.now in
    let i = c.loop-line.line-index in
    let line = c.line-item.result in
    let inside = c.loop-line-test.true in
    let is = c.line-item.is in
    record {
      origin = ScansTo-next now (field_name fields.Origin) lines i c.loop-line.origin _ line inside is
          (c.and_line-origin.ensures ∙ ap (λ t. found_with_line (found_as now c.loop-line.origin) t line) c.name.ensures) c.loop-line.invariant.origin;
      id = ScansTo-next now (field_name fields.Id) lines i c.loop-line.id _ line inside is
          (c.and_line-id.ensures ∙ ap (λ t. found_with_line (found_as now c.loop-line.id) t line) c.name-in-loop-line.ensures) c.loop-line.invariant.id;
      expiry = ScansTo-next now (field_name fields.Expiry) lines i c.loop-line.expiry _ line inside is
          (c.and_line-expiry.ensures ∙ ap (λ t. found_with_line (found_as now c.loop-line.expiry) t line) c.name-in-loop-line-2.ensures) c.loop-line.invariant.expiry;
      ty = ScansTo-next now (field_name (fields.ContentType c.args.method)) lines i c.loop-line.ty _ line inside is
          (c.and_line-ty.ensures ∙ ap (λ t. found_with_line (found_as now c.loop-line.ty) t line) c.name-in-loop-line-3.ensures) c.loop-line.invariant.ty;
      encoding = ScansTo-next now (field_name fields.ContentEncoding) lines i c.loop-line.encoding _ line inside is
          (c.and_line-encoding.ensures ∙ ap (λ t. found_with_line (found_as now c.loop-line.encoding) t line) c.name-in-loop-line-4.ensures) c.loop-line.invariant.encoding;
    }

pub returns-clause-origin : goal.returns-clause-origin
returns-clause-origin c =
    let now : Bor (List ℕ) → List ℕ = λ v. v.now in
    ScansTo-end now (field_name fields.Origin) c.args.lines.now c.loop-line.line-index c.loop-line.origin c.loop-line-test.false c.loop-line.invariant.origin

pub returns-clause-id : goal.returns-clause-id
returns-clause-id c =
    let now : Bor (List ℕ) → List ℕ = λ v. v.now in
    ScansTo-end now (field_name fields.Id) c.args.lines.now c.loop-line.line-index c.loop-line.id c.loop-line-test.false c.loop-line.invariant.id

pub returns-clause-expiry : goal.returns-clause-expiry
returns-clause-expiry c =
    let now : Bor (List ℕ) → List ℕ = λ v. v.now in
    ScansTo-end now (field_name fields.Expiry) c.args.lines.now c.loop-line.line-index c.loop-line.expiry c.loop-line-test.false c.loop-line.invariant.expiry

pub returns-clause-ty : goal.returns-clause-ty
returns-clause-ty c =
    let now : Bor (List ℕ) → List ℕ = λ v. v.now in
    ScansTo-end now (field_name (fields.ContentType c.args.method)) c.args.lines.now c.loop-line.line-index c.loop-line.ty c.loop-line-test.false c.loop-line.invariant.ty

pub returns-clause-encoding : goal.returns-clause-encoding
returns-clause-encoding c =
    let now : Bor (List ℕ) → List ℕ = λ v. v.now in
    ScansTo-end now (field_name fields.ContentEncoding) c.args.lines.now c.loop-line.line-index c.loop-line.encoding c.loop-line-test.false c.loop-line.invariant.encoding
