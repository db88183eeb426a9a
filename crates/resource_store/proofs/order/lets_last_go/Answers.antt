use Rattle.std.proofs.Common.{◌≡◌, ◌<◌, ◌-◌, ◌∷◌, [], ◌++◌, ℕ, List, Option, Some, None, get_or, length, option_to_list, ap, ◌∙◌, refl, arith, rules}
use Rattle.std.specs.List.{slice_get}
use Rattle.resource_store.specs.Slots.{held}
use Rattle.resource_store.proofs.StoreLemmas.{last_gone, read_or}
use Rattle.resource_store.proofs.order.lets_last_go.Goals as goal

pub returns-clause-kept : goal.returns-clause-kept
returns-clause-kept c =
    let order = c.args.order.now in
    let q = c.in-Some.last in
    let read : slice_get order.items (length order.items - 1) ≡ Some q = search rules in
    let some : 0 < order.len = by order.items order.len q read order.ok.0 in
    let popped : c.pop-gone.result ≡ Some q = c.pop-gone.ensures.value q some ∙ ap Some (ap (λ n. get_or order.items (n - 1) q) order.ok.0 ∙ read_or order.items (length order.items - 1) q q read) in
    let gone : (held c.args.resources.now.table) q ≡ None = c.if-not-has_gone.ensures refl in
    last_gone (held c.args.resources.now.table) order.items c.pop-gone.new.self.items q (c.pop-gone.ensures.items ∙ ap (λ (o : Option ℕ). c.pop-gone.new.self.items ++ option_to_list o) popped) gone
  where
    by : (ks : List ℕ) (len q : ℕ) → slice_get ks (length ks - 1) ≡ Some q → len ≡ length ks → 0 < len
    by [] len q read same = cc
    by (k ∷ ks) len q read same = omega arith
