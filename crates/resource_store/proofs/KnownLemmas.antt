-- What is overdue, by what was found before it.
use Rattle.std.specs.Prelude.{nat_eq, ◌==◌}
use Rattle.std.proofs.Common.{◌≡◌, ℕ, ◌<◌, List, [], ◌∷◌, ◌++◌, take, drop, nat_cmp, Bool, true, false, ◌&&◌, ◌||◌, not, Option, Some, None, inl, inr, refl, sym, ap, ◌∙◌, subst, arith}
use Rattle.std.proofs.lemmas.Bool.{cases_eq, eq-eqb, false_from_ne_true, ne_eqb}
use Rattle.std.proofs.lemmas.List.{take-append-drop}
use Rattle.std.proofs.lemmas.List.Elements.{filter_map-append}
use Rattle.std.proofs.lemmas.List.Folds.{list_any-append}
use Rattle.std.specs.List.{AllByRecursion, cons_option, filter, filter_map, list_any}
use Rattle.std.specs.List.Sorted.{IsStrictlySortedBy}
use Rattle.resource_model.specs.Resource.{ResourceData}
use Rattle.tree_model.specs.Tree.{at, has, is_due, is_tree, live, numbers_of, overdue_numbers, DoAscend}
use Rattle.tree_model.proofs.GrowthLemmas.{ascending_from_tree, has-filter, stands}
use Rattle.tree_model.proofs.ManyLemmas.{ascending_filter}
use Rattle.tree_model.proofs.OrderLemmas.{above_has, ascend, ascend_back, ascend_parts, tree_ascends}
use Rattle.tree_model.proofs.OverdueLemmas.{gone_above, gone_nowhere}
use Rattle.tree_model.proofs.TreeLemmas.{at_has, at_number, has_from_at}
use Rattle.resource_store.specs.Overdue.{is_overdue, KnowsBefore}
use Rattle.resource_store.proofs.NextLemmas.{picked_at}

eqb_sym : (a b : ℕ) → (a == b) ≡ (b == a)
eqb_sym a b = elim (cases_eq a b) [
  | inl e ↦ eq-eqb a b e ∙ sym (eq-eqb b a (sym e))
  | inr ne ↦ ne_eqb a b ne ∙ sym (ne_eqb b a (λ e. ne (sym e)))
]

-- a number among those of some resources
among_numbers : (n : ℕ) (rs : List ResourceData) → list_any (nat_eq n) (numbers_of rs) ≡ has n rs
among_numbers n [] = refl
among_numbers n (r ∷ rs) = ap (λ b. b || list_any (nat_eq n) (numbers_of rs)) (eqb_sym n r.number) ∙ ap (λ b. (r.number == n) || b) (among_numbers n rs)

all_front : (P : ℕ → Type 0) (xs ys : List ℕ) → AllByRecursion P (xs ++ ys) → AllByRecursion P xs
all_front P [] ys all = tt
all_front P (x ∷ xs) ys all = (all.0, all_front P xs ys all.1)

-- the front of a list that ascends does too
front_ascends : (xs ys : List ℕ) → IsStrictlySortedBy nat_cmp (xs ++ ys) → IsStrictlySortedBy nat_cmp xs
unfolding IsStrictlySortedBy
front_ascends [] ys h = tt
front_ascends (x ∷ xs) ys h = (all_front _ xs ys h.0, front_ascends xs ys h.1)

or_none : (b c : Bool) → c ≡ false → (b || c) ≡ b
or_none true c none = refl
or_none false c none = none

module _ (nodes : List ResourceData) (moment : ℕ) (tree : is_tree nodes ≡ true) where
  abbrev goes : ResourceData → Bool
  goes r = not (has r.number (live moment nodes))

  abbrev found_at : ℕ → Option ResourceData
  found_at n = at n nodes

  -- from a resource on, none has a lower number
  lacks_lower : (n : ℕ) (r : ResourceData) (rest : List ResourceData) → n < r.number → ascend (r ∷ rest) ≡ true → has n (r ∷ rest) ≡ false
  lacks_lower n r rest less order =
      rw (ne_eqb r.number n (λ e. omega arith))
      (false_from_ne_true _ (λ t. let up : r.number < n = above_has r.number n rest (ascend_parts r rest order).above t in omega arith))

  none_lower : (n : ℕ) (r : ResourceData) (rest : List ResourceData) → n < r.number → ascend (r ∷ rest) ≡ true → has n (filter goes (r ∷ rest)) ≡ false
  none_lower n r rest less order =
      has-filter (λ m. not (has m (live moment nodes))) n (r ∷ rest)
      ∙ ap (λ b. b && not (has n (live moment nodes))) (lacks_lower n r rest less order)

  rest_ascends : (ns : List ℕ) (k : ℕ) → filter_map found_at ns ≡ nodes → ascend (filter_map found_at (drop k ns)) ≡ true
  rest_ascends ns k all =
      let split : filter_map found_at (take k ns) ++ filter_map found_at (drop k ns) ≡ nodes =
      sym (filter_map-append found_at (take k ns) (drop k ns)) ∙ ap (filter_map found_at) (take-append-drop k ns) ∙ all in
      ascend_back (filter_map found_at (take k ns)) (filter_map found_at (drop k ns)) (ap ascend split ∙ tree_ascends nodes tree)

  overdue_ascend : DoAscend (overdue_numbers moment nodes)
  overdue_ascend = ascending_filter goes nodes (ascending_from_tree nodes tree)

  -- those so far are what is overdue before the next
  pub knows : (ns now rest : List ℕ) (k n : ℕ) (r : ResourceData) → filter_map found_at ns ≡ nodes → drop k ns ≡ n ∷ rest → now ++ picked_at goes nodes (drop k ns) ≡ overdue_numbers moment nodes → at n nodes ≡ Some r → KnowsBefore moment nodes r.number now
  knows ns now rest k n r all split is found = record {
    ascend = front_ascends now (picked_at goes nodes (drop k ns)) (subst DoAscend (sym is) overdue_ascend);
    before = λ m less.
        let later : filter_map found_at (drop k ns) ≡ r ∷ filter_map found_at rest =
        ap (filter_map found_at) split ∙ ap (λ o. cons_option o (filter_map found_at rest)) found in
        let order : ascend (r ∷ filter_map found_at rest) ≡ true = ap ascend (sym later) ∙ rest_ascends ns k all in
        let none : list_any (nat_eq m) (picked_at goes nodes (drop k ns)) ≡ false =
        among_numbers m (filter goes (filter_map found_at (drop k ns)))
        ∙ ap (λ (rs : List ResourceData). has m (filter goes rs)) later ∙ none_lower m r (filter_map found_at rest) less order in
        sym (or_none (list_any (nat_eq m) now) (list_any (nat_eq m) (picked_at goes nodes (drop k ns))) none)
        ∙ sym (list_any-append (nat_eq m) now (picked_at goes nodes (drop k ns)))
        ∙ ap (list_any (nat_eq m)) is
        ∙ among_numbers m (filter goes nodes) ∙ has-filter (λ i. not (has i (live moment nodes))) m nodes;
  }

  -- what isn't due itself is overdue where its parent is among those
  pub by_parent : (r : ResourceData) (ns : List ℕ) → at r.number nodes ≡ Some r → is_due nodes moment r ≡ false → KnowsBefore moment nodes r.number ns → list_any (nat_eq r.parent) ns ≡ not (has r.number (live moment nodes))
  by_parent r ns found not_due known =
      known.before r.parent (stands nodes tree r.number r found).above ∙ by (at r.parent nodes) refl
    where
      by : (o : Option ResourceData) → at r.parent nodes ≡ o → is_overdue moment nodes r.parent ≡ not (has r.number (live moment nodes))
      by None none =
          ap (λ b. b && not (has r.parent (live moment nodes))) (has_from_at r.parent nodes none)
          ∙ gone_nowhere nodes moment tree r found not_due none
      by (Some p) up =
          ap (λ b. b && not (has r.parent (live moment nodes))) (at_has r.parent nodes p up)
          ∙ gone_above nodes moment tree r p (not (has r.parent (live moment nodes))) found not_due up
          (ap (λ n. not (has n (live moment nodes))) (sym (at_number r.parent nodes p up)))
