use Rattle.std.proofs.Common.{ℕ, ap, sym, ◌∙◌}
use Rattle.std.specs.Prelude.{nat_eq}
use Rattle.std.specs.List.{list_any}
use Rattle.std.specs.Result.{is_ok}
use Rattle.tree_model.proofs.NumberLemmas.{among}
use Rattle.subscription_match.proofs.criteria.is_going.Goals as goal

pub returns-in-Err : goal.returns-in-Err
returns-in-Err c =
    ap is_ok (sym c.in-Err.is)
    ∙ among c.number.result c.args.going.now c.binary_search.result c.requires c.binary_search.ensures.bound c.binary_search.ensures.position
    ∙ ap (λ (n : ℕ). list_any (nat_eq n) c.args.going.now) c.number.ensures.value
