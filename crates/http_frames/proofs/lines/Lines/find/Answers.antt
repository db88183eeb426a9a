use Rattle.std.proofs.Common.{ℕ, List, Bor, ◌∙◌, subst}
use Rattle.http_frames.specs.Lines.{values_named, IsFound}
use Rattle.http_frames.proofs.LinesLemmas.{ScansTo-next, ScansTo-end}
use Rattle.http_frames.proofs.lines.Lines.find.Goals as goal

pub loop-line-preserved : goal.loop-line-preserved
loop-line-preserved c =
    let now : Bor (List ℕ) → List ℕ = λ v. v.now in
    ScansTo-next now c.args.name.now c.deref-line-items.result.now c.loop-line.line-index c.loop-line.found _ c.line-item.result
    c.loop-line-test.true c.line-item.is c.and_line-found.ensures c.loop-line.invariant

pub returns : goal.returns
returns c =
    let now : Bor (List ℕ) → List ℕ = λ v. v.now in
    let found = ScansTo-end now c.args.name.now c.deref-line-items.result.now _ c.loop-line.found c.loop-line-test.false c.loop-line.invariant in
    subst (λ lines. IsFound now c.loop-line.found (values_named c.args.name.now lines)) (c.deref-line-items.ensures.value ∙ c.self.view_is) found
