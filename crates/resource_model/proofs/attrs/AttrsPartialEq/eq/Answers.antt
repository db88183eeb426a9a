use Rattle.std.proofs.Common.{sym, ◌∙◌}
use Rattle.resource_model.specs.SameRows.{same_rows-Decides}
use Rattle.resource_model.proofs.attrs.AttrsPartialEq.eq.Goals as goal

pub returns-clause-means : goal.returns-clause-means
returns-clause-means c =
    let decides = same_rows-Decides c.args.self.now c.args.other.now in
    (λ is. decides.0 (sym c.have_same_rows.ensures ∙ is), λ e. c.have_same_rows.ensures ∙ decides.1 e)
