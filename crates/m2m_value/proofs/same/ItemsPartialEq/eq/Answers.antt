use Rattle.std.proofs.Common.{sym, ◌∙◌, ap₂}
use Rattle.m2m_value.specs.Same.{same_items, same_items-Decides}
use Rattle.m2m_value.proofs.same.ItemsPartialEq.eq.Goals as goal

pub returns-clause-means : goal.returns-clause-means
returns-clause-means c =
    let decides = same_items-Decides c.args.self.now c.args.other.now in
    let is = c.are_same_items.ensures ∙ ap₂ same_items c.entries.ensures c.entries-2.ensures in
    (λ h. decides.0 (sym is ∙ h), λ e. is ∙ decides.1 e)
