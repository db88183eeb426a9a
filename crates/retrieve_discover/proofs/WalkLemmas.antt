-- A walk down a tree, child by child, that keeps what passes up to a limit.
use Rattle.std.specs.Prelude.{slice_get}
use Rattle.std.proofs.Common.{◌≡◌, ℕ, ◌+◌, ◌<◌, ◌≤◌, List, [], ◌∷◌, ◌++◌, length, take, drop, map, Bool, true, Some, None, inl, inr, refl, sym, ap, ◌∙◌, arith}
use Rattle.std.specs.List.{filter, flat_map}
use Rattle.std.proofs.lemmas.Bool.{cases_Bool}
use Rattle.std.proofs.lemmas.List.{append-nil, append_assoc, drop_all, drop_more, length-append, map-append, take_all, take_at}
use Rattle.std.proofs.lemmas.List.Elements.{filter-append}
use Rattle.std.proofs.lemmas.Option.{get_or_from_slice_get, slice_get_cases}
use Rattle.m2m_value.specs.Data.{Data}
use Rattle.resource_model.specs.Resource.{ResourceData}
use Rattle.tree_model.specs.Tree.{children_of, is_tree, is_under, number_at}
use Rattle.retrieve_discover.specs.Descendants.{below}
use Rattle.retrieve_discover.proofs.BelowLemmas.{below_by_kids, with_below}
use Rattle.retrieve_discover.proofs.TakeLemmas.{take-onto}

-- ---- what is left of a list

pub drop_get : {A : Type 0} (xs : List A) (k : ℕ) (x : A) → slice_get xs k ≡ Some x → drop k xs ≡ x ∷ drop (k + 1) xs
drop_get xs k x is = elim (slice_get_cases xs k).1 [
  | inl h ↦ drop_more xs k x h.1 ∙ ap (λ y. y ∷ drop (k + 1) xs) (get_or_from_slice_get xs k x x is)
  | inr h ↦ (let none : None ≡ Some x = sym h.1 ∙ is in cc)
]

pub drop_none : {A : Type 0} (xs : List A) (k : ℕ) → slice_get xs k ≡ None → drop k xs ≡ []
drop_none xs k is = elim (slice_get_cases xs k).1 [
  | inl h ↦ (let none : None ≡ Some h.0 = sym is ∙ h.2 in cc)
  | inr h ↦ drop_all k xs h.0
]

filter_short : (p : ResourceData → Bool) (rs : List ResourceData) → length (filter p rs) ≤ length rs
filter_short p [] = omega arith
filter_short p (r ∷ rs) = let less = filter_short p rs in elim (cases_Bool (p r)) [
  | inl t ↦ rw t (omega (arith, less))
  | inr f ↦ rw f (omega (arith, less))
]

pub kids_past : (nodes : List ResourceData) (parent k : ℕ) → length nodes ≤ k → drop k (children_of parent nodes) ≡ []
kids_past nodes parent k past = let short = filter_short (is_under parent) nodes in drop_all k (children_of parent nodes) (omega (arith, short, past))

no_first : (rs : List ResourceData) → number_at 0 rs ≡ None → rs ≡ []
no_first [] none = refl
no_first (r ∷ rs) none = let some : Some r.number ≡ None = none in cc

-- ---- what is kept

module _ (show : ResourceData → Data) (p : ResourceData → Bool) where
  -- what is kept of resources, as it is shown
  abbrev pub kept : List ResourceData → List Data
  kept rs = map show (filter p rs)

  kept-append : (xs ys : List ResourceData) → kept (xs ++ ys) ≡ kept xs ++ kept ys
  kept-append xs ys = ap (map show) (filter-append p xs ys) ∙ map-append show (filter p xs) (filter p ys)

  -- what is kept of one resource, and then of what stands below it
  pub kept_one : (limit : ℕ) (nodes : List ResourceData) (r : ResourceData) (front more all : List Data) → more ≡ front ++ kept (r ∷ []) → all ≡ take limit (more ++ kept (below r.number nodes)) → all ≡ take limit (front ++ kept (r ∷ below r.number nodes))
  kept_one limit nodes r front more all first rest =
      rest
      ∙ ap (λ ds. take limit (ds ++ kept (below r.number nodes))) first
      ∙ ap (take limit) (append_assoc front (kept (r ∷ [])) (kept (below r.number nodes)) ∙ ap (λ ds. front ++ ds) (sym (kept-append (r ∷ []) (below r.number nodes))))

  -- what is kept of one resource, where nothing stands below it
  pub kept_leaf : (limit : ℕ) (nodes : List ResourceData) (r : ResourceData) (front more : List Data) → is_tree nodes ≡ true → number_at 0 (children_of r.number nodes) ≡ None → length more ≤ limit → more ≡ front ++ kept (r ∷ []) → more ≡ take limit (front ++ kept (r ∷ below r.number nodes))
  kept_leaf limit nodes r front more tree none room is =
      let nothing : below r.number nodes ≡ [] = below_by_kids r.number nodes tree ∙ ap (flat_map (with_below nodes)) (no_first (children_of r.number nodes) none) in
      sym (take_all limit more room) ∙ ap (take limit) (is ∙ ap (λ rs. front ++ kept (r ∷ rs)) (sym nothing))

  -- one child more
  pub kept_more : (limit : ℕ) (nodes kids : List ResourceData) (k : ℕ) (r : ResourceData) (front more all : List Data) → slice_get kids k ≡ Some r → more ≡ take limit (front ++ kept (r ∷ below r.number nodes)) → take limit (front ++ kept (flat_map (with_below nodes) (drop k kids))) ≡ all → take limit (more ++ kept (flat_map (with_below nodes) (drop (k + 1) kids))) ≡ all
  kept_more limit nodes kids k r front more all is next before =
      let rest = flat_map (with_below nodes) (drop (k + 1) kids) in
      let left : flat_map (with_below nodes) (drop k kids) ≡ with_below nodes r ++ rest = ap (flat_map (with_below nodes)) (drop_get kids k r is) in
      ap (λ ds. take limit (ds ++ kept rest)) next
      ∙ take-onto limit (front ++ kept (with_below nodes r)) (kept rest)
      ∙ ap (take limit) (append_assoc front (kept (with_below nodes r)) (kept rest) ∙ ap (λ ds. front ++ ds) (sym (kept-append (with_below nodes r) rest)))
      ∙ ap (λ rs. take limit (front ++ kept rs)) (sym left)
      ∙ before

  -- no child is left
  pub kept_all : (limit : ℕ) (nodes kids : List ResourceData) (k : ℕ) (front all : List Data) → drop k kids ≡ [] → length front ≤ limit → take limit (front ++ kept (flat_map (with_below nodes) (drop k kids))) ≡ all → front ≡ all
  kept_all limit nodes kids k front all none room before =
      sym (take_all limit front room)
      ∙ ap (take limit) (sym (append-nil front) ∙ ap (λ rs. front ++ kept (flat_map (with_below nodes) rs)) (sym none))
      ∙ before

  -- the limit is reached
  pub kept_full : (limit : ℕ) (left : List ResourceData) (front all : List Data) → limit ≤ length front → length front ≤ limit → take limit (front ++ kept left) ≡ all → front ≡ all
  kept_full limit left front all full room before =
      sym (take_at front (kept left) limit (omega (arith, full, room))) ∙ before

  -- at the start all are left
  pub kept_start : (limit : ℕ) (nodes : List ResourceData) (parent : ℕ) (front : List Data) → is_tree nodes ≡ true → take limit (front ++ kept (flat_map (with_below nodes) (drop 0 (children_of parent nodes)))) ≡ take limit (front ++ kept (below parent nodes))
  kept_start limit nodes parent front tree = ap (λ rs. take limit (front ++ kept rs)) (sym (below_by_kids parent nodes tree))

  -- one child more, itself alone
  pub kept_next : (limit : ℕ) (kids : List ResourceData) (k : ℕ) (r : ResourceData) (front more all : List Data) → slice_get kids k ≡ Some r → more ≡ front ++ kept (r ∷ []) → take limit (front ++ kept (drop k kids)) ≡ all → take limit (more ++ kept (drop (k + 1) kids)) ≡ all
  kept_next limit kids k r front more all is next before =
      let rest = drop (k + 1) kids in
      ap (λ ds. take limit (ds ++ kept rest)) next
      ∙ ap (take limit) (append_assoc front (kept (r ∷ [])) (kept rest) ∙ ap (λ ds. front ++ ds) (sym (kept-append (r ∷ []) rest)))
      ∙ ap (λ rs. take limit (front ++ kept rs)) (sym (drop_get kids k r is))
      ∙ before

  pub kept_done : (limit : ℕ) (kids : List ResourceData) (k : ℕ) (front all : List Data) → drop k kids ≡ [] → length front ≤ limit → take limit (front ++ kept (drop k kids)) ≡ all → front ≡ all
  kept_done limit kids k front all none room before =
      sym (take_all limit front room)
      ∙ ap (take limit) (sym (append-nil front) ∙ ap (λ rs. front ++ kept rs) (sym none))
      ∙ before

  -- one takes one place at most
  pub one_fits : (limit : ℕ) (r : ResourceData) (front more : List Data) → length front < limit → more ≡ front ++ kept (r ∷ []) → length more ≤ limit
  one_fits limit r front more less is =
      let long : length more ≡ length front + length (kept (r ∷ [])) = ap (λ (ds : List Data). length ds) is ∙ length-append front (kept (r ∷ [])) in
      let one : length (kept (r ∷ [])) ≤ 1 = elim (cases_Bool (p r)) [
        | inl t ↦ rw t (omega arith)
        | inr f ↦ rw f (omega arith)
      ] in
      omega (arith, less, long, one)
