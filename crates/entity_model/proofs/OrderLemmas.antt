-- The order of attributes: as soundness tests it, and as the types keep it.
use Rattle.std.proofs.Common.{◌≡◌, ℕ, List, [], ◌∷◌, true, Some, Less, refl, ap}
use Rattle.std.proofs.lemmas.Bool.{and_parts, and_from}
use Rattle.std.specs.FinMap.Entries.{below_all, is_sorted}
use Rattle.std.specs.List.{AllByRecursion}
use Rattle.std.specs.List.Sorted.{IsStrictlySortedBy}
use Rattle.std.specs.Map.{keys_of}
use Rattle.std.specs.Ordering.{is_lt}
use Rattle.m2m_names.proofs.PlaceLemmas.{less}
use Rattle.m2m_names.specs.declared.attributes.Attr.{Attr}
use Rattle.m2m_value.specs.Data.{Data}
use Rattle.resource_model.specs.Attributes.{Row, attr_cmp, with_value, AreInOrder}
use Rattle.resource_model.specs.Resource.{ResourceData}
use Rattle.resource_model.proofs.AttributeLemmas.{in_order-with_value}
use Rattle.tree_model.specs.Tree.{at}
use Rattle.tree_model.proofs.QuietLemmas.{number_passes}
use Rattle.entity_model.specs.Entity.{EntityData}
use Rattle.entity_model.specs.Sound.{keeps_order, IsSoundEntity}

-- an attribute that comes before each of these
before_each : (a : Attr) (rows : List Row) → AllByRecursion (λ b. attr_cmp a b ≡ Less) (keys_of rows) → below_all attr_cmp a rows ≡ true
before_each a [] all = refl
before_each a (row ∷ rows) all = and_from _ _ (ap is_lt all.0) (before_each a rows all.1)

each_behind : (a : Attr) (rows : List Row) → below_all attr_cmp a rows ≡ true → AllByRecursion (λ b. attr_cmp a b ≡ Less) (keys_of rows)
each_behind a [] is = tt
each_behind a (row ∷ rows) is =
    let both = and_parts (is_lt (attr_cmp a row.0)) (below_all attr_cmp a rows) is in (
      less (attr_cmp a row.0) both.0,
      each_behind a rows both.1,
    )

rows_in_order : (rows : List Row) → AreInOrder rows → is_sorted attr_cmp rows ≡ true
unfolding IsStrictlySortedBy
rows_in_order [] sorted = refl
rows_in_order (row ∷ rows) sorted = and_from _ _ (before_each row.0 rows sorted.0) (rows_in_order rows sorted.1)

order_of_rows : (rows : List Row) → is_sorted attr_cmp rows ≡ true → AreInOrder rows
unfolding IsStrictlySortedBy
order_of_rows [] is = tt
order_of_rows (row ∷ rows) is =
    let both = and_parts (below_all attr_cmp row.0 rows) (is_sorted attr_cmp rows) is in
    (each_behind row.0 rows both.0, order_of_rows rows both.1)

-- the test holds of a resource exactly where its attributes stand in order
pub order_kept : (r : ResourceData) → AreInOrder r.attrs → keeps_order r ≡ true
order_kept r order = rows_in_order r.attrs order

pub order_from : (r : ResourceData) → keeps_order r ≡ true → AreInOrder r.attrs
order_from r keeps = order_of_rows r.attrs keeps

-- so of each resource of a sound entity
pub order_at : (n : ℕ) (e : EntityData) (r : ResourceData) → IsSoundEntity e → at n e.nodes ≡ Some r → AreInOrder r.attrs
order_at n e r sound found = order_from r (number_passes keeps_order n e.nodes r sound.order found)

-- an attribute that is given a value
pub order-with_value : (a : Attr) (d : Data) (rows : List Row) → is_sorted attr_cmp rows ≡ true → is_sorted attr_cmp (with_value a d rows) ≡ true
order-with_value a d rows is = rows_in_order _ (in_order-with_value a d rows (order_of_rows rows is))
