use Rattle.std.proofs.Common.{◌≡◌, ℕ, List, Bor, refl, sym, ap, ◌∙◌}
use Rattle.http_frames.specs.Lines.{is_same_name}
use Rattle.http_frames.proofs.LinesLemmas.{line_same, line_other}
use Rattle.http_frames.proofs.lines.Found+ref+slice+u8.and_line.Goals as goal

pub returns-then-is_same_name : goal.returns-then-is_same_name
returns-then-is_same_name c =
    let now : Bor (List ℕ) → List ℕ = λ v. v.now in
    let line = c.args.line.now in
    let name = c.args.name.now in
    let tested : c.is_same_name.result ≡ is_same_name line.0 name =
    c.is_same_name.ensures ∙ ap (λ t. is_same_name t name) c.entries.ensures in
    line_same now c.args.self _ c.entries-then-is_same_name.result name line (sym tested ∙ c.if-is_same_name.true)
    c.and.ensures c.entries-then-is_same_name.ensures

pub returns-else-is_same_name : goal.returns-else-is_same_name
returns-else-is_same_name c =
    let now : Bor (List ℕ) → List ℕ = λ v. v.now in
    let line = c.args.line.now in
    let name = c.args.name.now in
    let tested : c.is_same_name.result ≡ is_same_name line.0 name =
    c.is_same_name.ensures ∙ ap (λ t. is_same_name t name) c.entries.ensures in
    line_other now c.args.self c.args.self name line (sym tested ∙ c.if-is_same_name.false) refl
