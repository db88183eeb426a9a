use Rattle.std.proofs.Common.{ℕ, List, Bor}
use Rattle.http_frames.proofs.LinesLemmas.{ScansTo}
use Rattle.http_binding.specs.Headers.{field_name}
use Rattle.http_binding.specs.declared.headers.Field.TheVariants as fields
use Rattle.http_binding.proofs.headers.field_lines.Given as goal

abbrev pub invariant-loop-line : goal.invariant-loop-line
invariant-loop-line l =
    let now : Bor (List ℕ) → List ℕ = λ v. v.now in
    record {
      origin : ScansTo now (field_name fields.Origin) l.lines l.line-index l.origin;
      id : ScansTo now (field_name fields.Id) l.lines l.line-index l.id;
      expiry : ScansTo now (field_name fields.Expiry) l.lines l.line-index l.expiry;
      ty : ScansTo now (field_name (fields.ContentType l.method)) l.lines l.line-index l.ty;
      encoding : ScansTo now (field_name fields.ContentEncoding) l.lines l.line-index l.encoding;
    }
