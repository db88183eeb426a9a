use Rattle.std.proofs.Common.{sym, ◌∙◌}
use Rattle.m2m_value.specs.Same.{same-Decides}
use Rattle.m2m_value.proofs.same.ValPartialEq.eq.Goals as goal

pub returns-clause-means : goal.returns-clause-means
returns-clause-means c =
    let decides = same-Decides c.args.self.now c.args.other.now in
    (λ is. decides.0 (sym c.are_same.ensures ∙ is), λ e. c.are_same.ensures ∙ decides.1 e)
