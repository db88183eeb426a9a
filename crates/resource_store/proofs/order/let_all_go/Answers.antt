use Rattle.std.proofs.Common.{ℕ, List, is_some, rules, sym, subst}
use Rattle.std.proofs.lemmas.Fn.{filter_same}
use Rattle.resource_store.specs.Slots.{held}
use Rattle.resource_store.specs.Store.{KeepsPresent}
use Rattle.resource_store.proofs.StoreLemmas.{all_present}
use Rattle.resource_store.proofs.order.let_all_go.Goals as goal

pub returns : goal.returns
returns c =
    let m = (held c.args.resources.now.table) in
    let kept = filter_same _ (λ (n : ℕ). is_some (m n)) _ (λ x b f' k. search rules) _ _ c.retain.ensures.filtered in
    subst (λ (ns : List ℕ). KeepsPresent m c.args.order.now.items ns) (sym kept) (all_present m c.args.order.now.items)
