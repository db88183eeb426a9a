-- Which of a container's instances are not among those that stay.
use Rattle.std.specs.Prelude.{nat_lt}
use Rattle.std.proofs.Common.{◌≡◌, ℕ, zero, suc, ◌+◌, ◌<◌, List, [], ◌∷◌, ◌++◌, drop, Bool, true, false, not, ◌||◌, Option, Some, None, Bor, option_map, inl, inr, refl, sym, ap, ◌∙◌, arith}
use Rattle.std.proofs.lemmas.Bool.{cases_Bool, ltb-true, ne_eqb, eq-eqb}
use Rattle.std.proofs.lemmas.List.Elements.{filter-append}
use Rattle.std.proofs.Math.Numerals.{suc-eq-add-one}
use Rattle.std.specs.Iterator.{YieldsFirstRef}
use Rattle.std.specs.List.{filter, slice_get}
use Rattle.resource_model.specs.Resource.{ResourceData}
use Rattle.tree_model.specs.Tree.{has}
use Rattle.tree_model.proofs.OrderLemmas.{are_above, ascend, above_filter, above_lacks, ascend_back, ascend_parts}
use Rattle.m2m_names.proofs.ListLemmas.{filter_agree, append_parts}

-- ---- what is not among those that stay

filter_above : (n : ℕ) (p q : ResourceData → Bool) → ((s : ResourceData) → n < s.number → p s ≡ q s) → (nodes : List ResourceData) → are_above n nodes ≡ true → filter p nodes ≡ filter q nodes
filter_above n p q same nodes above = filter_agree (λ (r : ResourceData). nat_lt n r.number) p q (λ r higher. same r (ltb-true n r.number higher)) nodes above

abbrev is_not_in : List ResourceData → ResourceData → Bool
is_not_in stayed r = not (has r.number stayed)

-- of a list, what a filter of it lacks is what the filter leaves out
lacked : (p : ResourceData → Bool) (nodes : List ResourceData) → ascend nodes ≡ true → filter (is_not_in (filter p nodes)) nodes ≡ filter (λ r. not (p r)) nodes
lacked p [] order = refl
lacked p (r ∷ nodes) order =
    let parts = ascend_parts r nodes order in
    let rest = filter p nodes in
    elim (cases_Bool (p r)) [
      | inl t ↦
          let whole : filter p (r ∷ nodes) ≡ r ∷ rest = rw t refl in
          let other : (s : ResourceData) → r.number < s.number → is_not_in (r ∷ rest) s ≡ is_not_in rest s = λ s less. ap (λ b. not (b || has s.number rest)) (ne_eqb r.number s.number (λ e. omega arith)) in
          let tail : filter (is_not_in (r ∷ rest)) nodes ≡ filter (λ s. not (p s)) nodes = filter_above r.number _ _ other nodes parts.above ∙ lacked p nodes parts.rest in
          ap (λ (ss : List ResourceData). filter (is_not_in ss) (r ∷ nodes)) whole ∙ rw (eq-eqb r.number r.number refl, t) tail
      | inr f ↦
          let whole : filter p (r ∷ nodes) ≡ rest = rw f refl in
          let none : has r.number rest ≡ false = above_lacks r.number rest (above_filter p r.number nodes parts.above) in
          ap (λ (ss : List ResourceData). filter (is_not_in ss) (r ∷ nodes)) whole ∙ rw (none, f) (ap (λ (ss : List ResourceData). r ∷ ss) (lacked p nodes parts.rest))
    ]

-- of what stands before it, nothing is in it
lacked_front : (p : ResourceData → Bool) (front back : List ResourceData) → ascend (front ++ back) ≡ true → filter (is_not_in (filter p back)) front ≡ front
lacked_front p [] back order = refl
lacked_front p (r ∷ front) back order =
    let parts = ascend_parts r (front ++ back) order in
    let above = append_parts (λ (s : ResourceData). nat_lt r.number s.number) front back parts.above in
    let none : has r.number (filter p back) ≡ false = above_lacks r.number (filter p back) (above_filter p r.number back above.back) in
    rw none (ap (λ (ss : List ResourceData). r ∷ ss) (lacked_front p front back parts.rest))

-- where a filter of the back stays, the front goes, and of the back what the filter leaves out
pub lacked_all : (p : ResourceData → Bool) (front back : List ResourceData) → ascend (front ++ back) ≡ true → filter (λ r. not (has r.number (filter p back))) (front ++ back) ≡ front ++ filter (λ r. not (p r)) back
lacked_all p front back order =
    filter-append (is_not_in (filter p back)) front back
    ∙ ap (λ (ss : List ResourceData). ss ++ filter (is_not_in (filter p back)) back) (lacked_front p front back order)
    ∙ ap (λ (ss : List ResourceData). front ++ ss) (lacked p back (ascend_back front back order))

-- ---- going over a list

next_place : (rs : List ResourceData) (k : ℕ) → (slice_get (drop k rs) 0 ≡ slice_get rs k) × (drop 1 (drop k rs) ≡ drop (suc k) rs)
next_place [] zero = (refl, refl)
next_place [] (suc k) = (refl, refl)
next_place (r ∷ rs) zero = (refl, refl)
next_place (r ∷ rs) (suc k) = next_place rs k

-- the first of what is left from a place on stands there, and the rest is left from the next one on
pub taken : (rs left after : List ResourceData) (k : ℕ) (o : Option (Bor ResourceData)) → left ≡ drop k rs → YieldsFirstRef (λ rest. rest) left o after → (option_map (λ r. r.now) o ≡ slice_get rs k) × (after ≡ drop (k + 1) rs)
taken rs left after k None is got =
    let none : drop k rs ≡ [] = sym is ∙ got.0 in
    let place = next_place rs k in (
      sym (sym place.0 ∙ ap (λ (ss : List ResourceData). slice_get ss 0) none),
      got.1 ∙ sym (ap (drop 1) none) ∙ place.1 ∙ ap (λ n. drop n rs) (suc-eq-add-one k),
    )
taken rs left after k (Some x) is got =
    let some : drop k rs ≡ x.now ∷ after = sym is ∙ got in
    let place = next_place rs k in (
      sym (sym place.0 ∙ ap (λ (ss : List ResourceData). slice_get ss 0) some),
      sym (ap (drop 1) some) ∙ place.1 ∙ ap (λ n. drop n rs) (suc-eq-add-one k),
    )
