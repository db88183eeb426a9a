-- Numbers ascend, so that a resource at a place is found by its number.
use Rattle.std.specs.Prelude.{nat_lt, slice_get, IfSome}
use Rattle.std.proofs.Common.{◌≡◌, ℕ, zero, suc, ◌<◌, List, [], ◌∷◌, ◌++◌, Bool, true, false, ◌&&◌, Option, Some, None, option_map, Bor, inl, inr, refl, sym, ap, ◌∙◌, arith}
use Rattle.std.proofs.lemmas.Bool.{cases_Bool, eqb-true, and_parts, and_from, or_cases, ltb-true, lt-ltb, ne_eqb, eq-eqb, both_ways, false_from_ne_true}
use Rattle.std.proofs.lemmas.List.Folds.{list_all-append}
use Rattle.std.proofs.lemmas.Option.{same_Some}
use Rattle.std.specs.List.{filter, list_all}
use Rattle.resource_model.specs.Resource.{ResourceData, has_number}
use Rattle.tree_model.specs.Tree.{at, has, resource_number, number_at, is_under, children_of, are_below, may_stand, is_tree}
use Rattle.tree_model.proofs.GrowthLemmas.{below_parts, growth, next_fits}
use Rattle.m2m_names.proofs.ListLemmas.{all_filtered}
use Rattle.tree_model.proofs.TreeLemmas.{at_has}

-- ---- numbers ascend

-- every number is above this one
abbrev pub are_above : ℕ → List ResourceData → Bool
are_above n nodes = list_all (λ (s : ResourceData). nat_lt n s.number) nodes

-- each number is below those that follow
abbrev pub ascend : List ResourceData → Bool
ascend [] = true
ascend (r ∷ nodes) = are_above r.number nodes && ascend nodes

-- the number of the first, and those of the rest, are above this one
pub record AreAbove (n : ℕ) (r : ResourceData) (more : List ResourceData) : Type 0 where
  pub first : n < r.number
  pub rest : are_above n more ≡ true

pub above_parts : (n : ℕ) (r : ResourceData) (more : List ResourceData) → are_above n (r ∷ more) ≡ true → AreAbove n r more
above_parts n r more above =
    let parts = and_parts (nat_lt n r.number) (are_above n more) above in
    record { first = ltb-true n r.number parts.0; rest = parts.1 }

-- the rest ascends above the first
pub record Ascends (r : ResourceData) (more : List ResourceData) : Type 0 where
  pub above : are_above r.number more ≡ true
  pub rest : ascend more ≡ true

pub ascend_parts : (r : ResourceData) (more : List ResourceData) → ascend (r ∷ more) ≡ true → Ascends r more
ascend_parts r more order =
    let parts = and_parts (are_above r.number more) (ascend more) order in
    record { above = parts.0; rest = parts.1 }

pub above_push : (n : ℕ) (nodes : List ResourceData) (r : ResourceData) → are_above n nodes ≡ true → n < r.number → are_above n (nodes ++ r ∷ []) ≡ true
above_push n nodes r above less = list_all-append _ nodes (r ∷ []) ∙ and_from _ _ above (and_from _ _ (lt-ltb n r.number less) refl)

ascend_push : (nodes : List ResourceData) (r : ResourceData) → ascend nodes ≡ true → are_below r.number nodes ≡ true → ascend (nodes ++ r ∷ []) ≡ true
ascend_push [] r order below = refl
ascend_push (s ∷ nodes) r order below =
    let o = ascend_parts s nodes order in
    let b = below_parts r.number s nodes below in
    and_from _ _ (above_push s.number nodes r o.above b.first) (ascend_push nodes r o.rest b.rest)

pub tree_ascends : (nodes : List ResourceData) → is_tree nodes ≡ true → ascend nodes ≡ true
tree_ascends = growth may_stand (λ nodes. ascend nodes ≡ true) refl (λ before r grew next holds. ascend_push before r holds (next_fits before r next).number)

pub above_filter : (p : ResourceData → Bool) (n : ℕ) (nodes : List ResourceData) → are_above n nodes ≡ true → are_above n (filter p nodes) ≡ true
above_filter p n nodes above = all_filtered (λ (s : ResourceData). nat_lt n s.number) p nodes above

pub ascend_filter : (p : ResourceData → Bool) (nodes : List ResourceData) → ascend nodes ≡ true → ascend (filter p nodes) ≡ true
ascend_filter p [] order = refl
ascend_filter p (r ∷ nodes) order =
    let parts = ascend_parts r nodes order in
    elim (cases_Bool (p r)) [
      | inl t ↦ rw t (and_from _ _ (above_filter p r.number nodes parts.above) (ascend_filter p nodes parts.rest))
      | inr f ↦ rw f (ascend_filter p nodes parts.rest)
    ]

-- what stands behind another ascends by itself
pub ascend_back : (front back : List ResourceData) → ascend (front ++ back) ≡ true → ascend back ≡ true
ascend_back [] back order = order
ascend_back (r ∷ front) back order = ascend_back front back (ascend_parts r (front ++ back) order).rest

pub above_has : (n m : ℕ) (nodes : List ResourceData) → are_above n nodes ≡ true → has m nodes ≡ true → n < m
above_has n m [] above there = absurd (both_ways _ refl there)
above_has n m (r ∷ nodes) above there =
    let parts = above_parts n r nodes above in
    elim (or_cases (has_number m r) (has m nodes) there) [
      | inl here ↦ let is : r.number ≡ m = eqb-true r.number m here in let less : n < r.number = parts.first in omega arith
      | inr later ↦ above_has n m nodes parts.rest later
    ]

pub above_lacks : (n : ℕ) (nodes : List ResourceData) → are_above n nodes ≡ true → has n nodes ≡ false
above_lacks n nodes above = false_from_ne_true _ (λ t. let less : n < n = above_has n n nodes above t in omega arith)

-- ---- a resource at a place

behind : (s : ResourceData) (nodes : List ResourceData) (r : ResourceData) → are_above s.number nodes ≡ true → at r.number nodes ≡ Some r → at r.number (s ∷ nodes) ≡ Some r
behind s nodes r above found =
    let less : s.number < r.number = above_has s.number r.number nodes above (at_has r.number nodes r found) in
    rw (ne_eqb s.number r.number (λ e. omega arith)) found

-- one that stands at a place is found by its number
pub at_place : (nodes : List ResourceData) (k : ℕ) (r : ResourceData) → ascend nodes ≡ true → slice_get nodes k ≡ Some r → at r.number nodes ≡ Some r
at_place [] k r order found = cc
at_place (s ∷ nodes) zero r order found =
    let is : s ≡ r = same_Some s r found in
    rw (eq-eqb s.number r.number (ap (λ (x : ResourceData). x.number) is)) found
at_place (s ∷ nodes) (suc k) r order found =
    let parts = ascend_parts s nodes order in
    behind s nodes r parts.above (at_place nodes k r parts.rest found)

-- one that a filter has at a place is found by its number
pub at_filtered : (p : ResourceData → Bool) (nodes : List ResourceData) (k : ℕ) (r : ResourceData) → ascend nodes ≡ true → slice_get (filter p nodes) k ≡ Some r → at r.number nodes ≡ Some r
at_filtered p [] k r order found = cc
at_filtered p (s ∷ nodes) k r order found =
    let parts = ascend_parts s nodes order in
    elim (cases_Bool (p s)) [
      | inl t ↦ first s nodes k r parts.above (λ j later. at_filtered p nodes j r parts.rest later) (rw t at found)
      | inr f ↦ behind s nodes r parts.above (at_filtered p nodes k r parts.rest (rw f at found))
    ]
  where
    first : (s : ResourceData) (nodes : List ResourceData) (k : ℕ) (r : ResourceData) → are_above s.number nodes ≡ true → ((j : ℕ) → slice_get (filter p nodes) j ≡ Some r → at r.number nodes ≡ Some r) → slice_get (s ∷ filter p nodes) k ≡ Some r → at r.number (s ∷ nodes) ≡ Some r
    first s nodes zero r above later found =
        let is : s ≡ r = same_Some s r found in
        rw (eq-eqb s.number r.number (ap (λ (x : ResourceData). x.number) is)) found
    first s nodes (suc j) r above later found = behind s nodes r above (later j found)

pub number_some : (o : Option ResourceData) (n : ℕ) → Some n ≡ resource_number o → (r : ResourceData) × (o ≡ Some r) × (r.number ≡ n)
number_some None n is = cc
number_some (Some r) n is = (r, refl, sym (same_Some n r.number is))

-- by the number at a place of a filter, what stands there is found
pub placed_found : (p : ResourceData → Bool) (nodes : List ResourceData) (k n : ℕ) → is_tree nodes ≡ true → Some n ≡ number_at k (filter p nodes) → at n nodes ≡ slice_get (filter p nodes) k
placed_found p nodes k n tree is =
    let there = number_some (slice_get (filter p nodes) k) n is in
    ap (λ (m : ℕ). at m nodes) (sym there.2) ∙ at_filtered p nodes k there.0 (tree_ascends nodes tree) there.1 ∙ sym there.1

-- what a filter has at a place passes it
pub passes_filter : (p : ResourceData → Bool) (nodes : List ResourceData) (k : ℕ) (r : ResourceData) → slice_get (filter p nodes) k ≡ Some r → p r ≡ true
passes_filter p [] k r found = cc
passes_filter p (s ∷ nodes) k r found = elim (cases_Bool (p s)) [
  | inl t ↦ first p s nodes k r t (λ j later. passes_filter p nodes j r later) (rw t at found)
  | inr f ↦ passes_filter p nodes k r (rw f at found)
]
  where
    first : (p : ResourceData → Bool) (s : ResourceData) (nodes : List ResourceData) (k : ℕ) (r : ResourceData) → p s ≡ true → ((j : ℕ) → slice_get (filter p nodes) j ≡ Some r → p r ≡ true) → slice_get (s ∷ filter p nodes) k ≡ Some r → p r ≡ true
    first p s nodes zero r passes later found = ap p (sym (same_Some s r found)) ∙ passes
    first p s nodes (suc j) r passes later found = later j found

-- the child at a place is one of this parent
pub child_under : (parent : ℕ) (nodes : List ResourceData) (k : ℕ) (r : ResourceData) → slice_get (children_of parent nodes) k ≡ Some r → r.parent ≡ parent
child_under parent nodes k r found = eqb-true r.parent parent (passes_filter (is_under parent) nodes k r found)

-- what a filter has at a place stands under its number
pub placed_stands : (p : ResourceData → Bool) (nodes : List ResourceData) (k : ℕ) (r : ResourceData) → is_tree nodes ≡ true → slice_get (filter p nodes) k ≡ Some r → at r.number nodes ≡ Some r
placed_stands p nodes k r tree found = at_filtered p nodes k r (tree_ascends nodes tree) found

pub some_stands : (p : ResourceData → Bool) (nodes : List ResourceData) (k : ℕ) (o : Option (Bor ResourceData)) → is_tree nodes ≡ true → option_map (λ r. r.now) o ≡ slice_get (filter p nodes) k → IfSome o (λ r. at r.now.number nodes ≡ Some r.now)
some_stands p nodes k None tree is = tt
some_stands p nodes k (Some r) tree is = placed_stands p nodes k r.now tree (sym is)

pub some_under : (parent : ℕ) (nodes : List ResourceData) (k : ℕ) (o : Option (Bor ResourceData)) → option_map (λ r. r.now) o ≡ slice_get (children_of parent nodes) k → IfSome o (λ r. r.now.parent ≡ parent)
some_under parent nodes k None is = tt
some_under parent nodes k (Some r) is = child_under parent nodes k r.now (sym is)
