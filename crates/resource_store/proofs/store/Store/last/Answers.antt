use Rattle.std.proofs.Common.{◌≡◌, ◌-◌, ◌+◌, ℕ, Option, Some, None, Bor, IfSome, length, option_map, ap, sym, ◌∙◌, rules, List}
use Rattle.std.specs.List.{slice_get}
use Rattle.resource_model.specs.Resource.{ResourceData}
use Rattle.resource_store.specs.Slots.{held}
use Rattle.resource_store.proofs.StoreLemmas.{last_found}
use Rattle.resource_store.specs.Store.{resources_of}
use Rattle.resource_store.proofs.store.Store.last.Goals as goal

pub returns : goal.returns
returns c k many =
    let order = c.self.inside.order.items in
    let m = (held c.self.inside.resources.table) in
    let q = c.in_ok-number.number.now in
    let read : slice_get order (length order - 1) ≡ Some q = search rules in
    let got : option_map (λ (r : Bor ResourceData). r.now) c.get.result ≡ m q = c.get.ensures in
    by c.get.result m order q k got read (ap length c.self.view_is ∙ sym many) c.args.self.now c.self.view_is
  where
    by : (o : Option (Bor ResourceData)) (m : ℕ → Option ResourceData) (order : List ℕ) (q k : ℕ) → option_map (λ (r : Bor ResourceData). r.now) o ≡ m q → slice_get order (length order - 1) ≡ Some q → length (resources_of order m) ≡ k + 1 → (now : List ResourceData) → resources_of order m ≡ now → IfSome o (λ r. slice_get now k ≡ Some r.now)
    by None m order q k got read many now is = tt
    by (Some r) m order q k got read many now is = ap (λ (rs : List ResourceData). slice_get rs k) (sym is) ∙ last_found m order q r.now read (sym got) k (sym many)
