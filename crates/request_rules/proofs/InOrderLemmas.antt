-- Attributes in the order of their names: as admission tests it, and as the types keep it.
use Rattle.std.proofs.Common.{◌≡◌, ℕ, List, [], ◌∷◌, true, Less, refl, ap}
use Rattle.std.proofs.lemmas.Bool.{and_parts, and_from}
use Rattle.std.specs.Cmp.Lexicographic.{slice_cmp}
use Rattle.std.specs.FinMap.Entries.{below_all}
use Rattle.std.specs.List.{AllByRecursion}
use Rattle.std.specs.List.Sorted.{IsStrictlySortedBy}
use Rattle.std.specs.Map.{keys_of}
use Rattle.std.specs.Ordering.{is_lt, nat_cmp}
use Rattle.m2m_names.proofs.PlaceLemmas.{less}
use Rattle.m2m_value.specs.Data.{Entry}
use Rattle.m2m_value.specs.Node.{AreSorted}
use Rattle.request_rules.specs.Requests.{are_in_order}

-- a name that stands before each of these
before_each : (name : List ℕ) (es : List Entry) → AllByRecursion (λ y. slice_cmp nat_cmp name y ≡ Less) (keys_of es) → below_all (slice_cmp nat_cmp) name es ≡ true
before_each name [] all = refl
before_each name (e ∷ es) all = and_from _ _ (ap is_lt all.0) (before_each name es all.1)

each_behind : (name : List ℕ) (es : List Entry) → below_all (slice_cmp nat_cmp) name es ≡ true → AllByRecursion (λ y. slice_cmp nat_cmp name y ≡ Less) (keys_of es)
each_behind name [] is = tt
each_behind name (e ∷ es) is =
    let both = and_parts (is_lt (slice_cmp nat_cmp name e.0)) (below_all (slice_cmp nat_cmp) name es) is in (
      less (slice_cmp nat_cmp name e.0) both.0,
      each_behind name es both.1,
    )

pub sorted_in_order : (es : List Entry) → AreSorted es → are_in_order es ≡ true
unfolding IsStrictlySortedBy
sorted_in_order [] sorted = refl
sorted_in_order (e ∷ es) sorted = and_from _ _ (before_each e.0 es sorted.0) (sorted_in_order es sorted.1)

pub order_sorted : (es : List Entry) → are_in_order es ≡ true → AreSorted es
unfolding IsStrictlySortedBy
order_sorted [] is = tt
order_sorted (e ∷ es) is =
    let both = and_parts (below_all (slice_cmp nat_cmp) e.0 es) (are_in_order es) is in
    (each_behind e.0 es both.0, order_sorted es both.1)
