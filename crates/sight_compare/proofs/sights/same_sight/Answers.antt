use Rattle.std.proofs.Common.{sym, ◌∙◌}
use Rattle.sight_compare.specs.Same.{same_sights-Decides}
use Rattle.sight_compare.proofs.sights.same_sight.Goals as goal

pub returns : goal.returns
returns g c =
    let decides = same_sights-Decides c.args.originator.now c.args.left.now c.args.right.now in
    (λ is. decides.0 (sym c.have_same_parts.ensures ∙ is), λ e. c.have_same_parts.ensures ∙ decides.1 e)
