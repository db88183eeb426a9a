use Rattle.std.proofs.Common.{ℕ, List, rules, sym, subst}
use Rattle.std.proofs.lemmas.Fn.{filter_same}
use Rattle.tree_model.specs.Tree.{has}
use Rattle.resource_dues.specs.Dues.{AreTold}
use Rattle.resource_dues.proofs.DuesLemmas.{told_left}
use Rattle.resource_dues.proofs.dues.Dues.let_go.Goals as goal

pub returns : goal.returns
returns c told whole =
    let kept = filter_same _ (λ (e : ℕ × ℕ). has e.1 c.args.list.now) _ (λ x b f' k. search rules) _ _ c.retain.ensures.filtered in
    subst (λ (es : List (ℕ × ℕ)). AreTold c.args.list.now es) (sym kept) (told_left c.args.list.now c.args.self.now.moments.keys (told whole))
