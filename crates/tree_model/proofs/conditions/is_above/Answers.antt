use Rattle.std.proofs.Common.{ℕ, ◌-◌, Option, true, sym, ap, ◌∙◌}
use Rattle.std.specs.Prelude.{nat_lt}
use Rattle.std.specs.List.{slice_get}
use Rattle.std.specs.Option.{option_map_or}
use Rattle.resource_model.specs.Resource.{ResourceData}
use Rattle.tree_model.proofs.FoundLemmas.{below_last}
use Rattle.tree_model.proofs.conditions.is_above.Goals as goal

pub returns : goal.returns
returns g c =
    c.is_lower.ensures
    ∙ ap (λ (o : Option ResourceData). option_map_or (λ (r : ResourceData). nat_lt r.number c.args.number) o true)
    (c.nth.ensures ∙ ap (λ (k : ℕ). slice_get (g.T.Tree.nodes c.args.tree.now) k) (c.saturating_sub.ensures ∙ ap (λ (m : ℕ). m - 1) c.len-count.ensures.value))
    ∙ sym (below_last c.args.number (g.T.Tree.nodes c.args.tree.now) c.len-count.ensures.tree)
