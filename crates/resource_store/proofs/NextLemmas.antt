-- The first resource after a number, and those until it.
use Rattle.std.specs.Prelude.{nat_lt}
use Rattle.std.proofs.Common.{◌≡◌, ◌≢◌, ◌⊎◌, ℕ, zero, suc, ◌+◌, ◌<◌, ◌≤◌, List, [], ◌∷◌, ◌++◌, append_assoc, sum_by, zero-add, Bool, true, Option, Some, None, option_to_list, inl, inr, refl, sym, ap, ◌∙◌, arith}
use Rattle.std.proofs.lemmas.Bool.{cases_Bool, both_ways, eq-eqb, eqb-true, ltb-false, ltb-true}
use Rattle.std.proofs.lemmas.List.Sums.{sum_by-cons}
use Rattle.std.proofs.lemmas.Option.{same_Some}
use Rattle.std.specs.List.{cons_option, filter, filter_map}
use Rattle.m2m_names.specs.declared.types.Ty.TheVariants.{ContentInstance}
use Rattle.resource_model.specs.Resource.{ResourceData, has_number}
use Rattle.tree_model.specs.Tree.{all_after, at, has, instance_size, instances_of, is_kin, is_tree, next_after, numbers_of, sizes_of}
use Rattle.tree_model.proofs.GrowthLemmas.{zero_lacks}
use Rattle.tree_model.proofs.OrderLemmas.{above_has, ascend, ascend_parts, tree_ascends}
use Rattle.tree_model.proofs.TreeLemmas.{at_has, at_number}
use Rattle.tree_model.proofs.WalkLemmas.{none_left, step_some}

-- it comes after the number
pub next_above : (n : ℕ) (nodes : List ResourceData) (x : ResourceData) → next_after n nodes ≡ Some x → n < x.number
next_above n [] x found = cc
next_above n (s ∷ nodes) x found = elim (cases_Bool (nat_lt n s.number)) [
  | inl t ↦ (let is : s ≡ x = same_Some s x (rw t at found) in let same : s.number ≡ x.number = ap (λ (y : ResourceData). y.number) is in let less : n < s.number = ltb-true n s.number t in omega arith)
  | inr f ↦ next_above n nodes x (rw f at found)
]

-- it stands in the list
stands_by : (n : ℕ) (nodes : List ResourceData) (x : ResourceData) → ascend nodes ≡ true → next_after n nodes ≡ Some x → at x.number nodes ≡ Some x
stands_by n [] x order found = cc
stands_by n (s ∷ nodes) x order found = elim (cases_Bool (nat_lt n s.number)) [
  | inl t ↦ (let is : s ≡ x = same_Some s x (rw t at found) in let here : has_number x.number s ≡ true = eq-eqb s.number x.number (ap (λ (y : ResourceData). y.number) is) in rw here (ap Some is))
  | inr f ↦
      let later : next_after n nodes ≡ Some x = rw f at found in
      let rest : at x.number nodes ≡ Some x = stands_by n nodes x (ascend_parts s nodes order).rest later in
      elim (cases_Bool (has_number x.number s)) [
        | inl t ↦ absurd (let low : s.number ≤ n = ltb-false n s.number f in let high : n < x.number = next_above n nodes x later in let same : s.number ≡ x.number = eqb-true s.number x.number t in omega arith)
        | inr g ↦ rw g rest
      ]
]

pub next_stands : (n : ℕ) (nodes : List ResourceData) (x : ResourceData) → is_tree nodes ≡ true → next_after n nodes ≡ Some x → at x.number nodes ≡ Some x
next_stands n nodes x tree found = stands_by n nodes x (tree_ascends nodes tree) found

until_by : (n : ℕ) (nodes : List ResourceData) (x r : ResourceData) → ascend nodes ≡ true → next_after n nodes ≡ Some x → at r.number nodes ≡ Some r → r.number ≤ x.number → (r.number ≤ n) ⊎ (r ≡ x)
until_by n [] x r order found there low = cc
until_by n (s ∷ nodes) x r order found there low = elim (cases_Bool (nat_lt n s.number)) [
  | inl t ↦
      let is : s ≡ x = same_Some s x (rw t at found) in
      elim (cases_Bool (has_number r.number s)) [
        | inl u ↦ inr (sym (same_Some s r (rw u at there)) ∙ is)
        | inr g ↦ absurd (let behind : s.number < r.number = above_has s.number r.number nodes (ascend_parts s nodes order).above (at_has r.number nodes r (rw g at there)) in let same : s.number ≡ x.number = ap (λ (y : ResourceData). y.number) is in omega arith)
      ]
  | inr f ↦ elim (cases_Bool (has_number r.number s)) [
    | inl u ↦ inl (let low_s : s.number ≤ n = ltb-false n s.number f in let same : s.number ≡ r.number = eqb-true s.number r.number u in omega arith)
    | inr g ↦ until_by n nodes x r (ascend_parts s nodes order).rest (rw f at found) (rw g at there) low
  ]
]

-- what stands until it stands until the number, or is it
pub until_next : (n : ℕ) (nodes : List ResourceData) (x r : ResourceData) → is_tree nodes ≡ true → next_after n nodes ≡ Some x → at r.number nodes ≡ Some r → r.number ≤ x.number → (r.number ≤ n) ⊎ (r ≡ x)
until_next n nodes x r tree = until_by n nodes x r (tree_ascends nodes tree)

-- where there is none, all stand until the number
pub until_end : (n : ℕ) (nodes : List ResourceData) (r : ResourceData) → next_after n nodes ≡ None → at r.number nodes ≡ Some r → r.number ≤ n
until_end n [] r none there = cc
until_end n (s ∷ nodes) r none there = elim (cases_Bool (nat_lt n s.number)) [
  | inl t ↦ absurd (let some : Some s ≡ None = rw t at none in cc)
  | inr f ↦ elim (cases_Bool (has_number r.number s)) [
    | inl u ↦ (let low : s.number ≤ n = ltb-false n s.number f in let same : s.number ≡ r.number = eqb-true s.number r.number u in omega arith)
    | inr g ↦ until_end n nodes r (rw f at none) (rw g at there)
  ]
]

-- nothing stands until 0
pub until_zero : (nodes : List ResourceData) (r : ResourceData) → is_tree nodes ≡ true → at r.number nodes ≡ Some r → 0 < r.number
until_zero nodes r tree there = by r.number refl
  where
    by : (n : ℕ) → r.number ≡ n → 0 < r.number
    by zero is = absurd (both_ways _ (zero_lacks nodes tree) (ap (λ k. has k nodes) (sym is) ∙ at_has r.number nodes r there))
    by (suc n) is = omega arith

-- ---- the numbers of those that a test picks, gone over

module _ (q : ResourceData → Bool) (nodes : List ResourceData) where
  -- of the resources that these numbers have
  abbrev pub picked_at : List ℕ → List ℕ
  picked_at ns = numbers_of (filter q (filter_map (λ n. at n nodes) ns))

  -- of the one that a number has, if any
  abbrev pub picked_of : ℕ → List ℕ
  picked_of n = numbers_of (filter q (option_to_list (at n nodes)))

  first_of : (n : ℕ) (ns : List ℕ) → picked_of n ++ picked_at ns ≡ picked_at (n ∷ ns)
  first_of n ns = by (at n nodes)
    where
      by : (o : Option ResourceData) → numbers_of (filter q (option_to_list o)) ++ picked_at ns ≡ numbers_of (filter q (cons_option o (filter_map (λ m. at m nodes) ns)))
      by None = refl
      by (Some x) = elim (cases_Bool (q x)) [
        | inl t ↦ rw t refl
        | inr f ↦ rw f refl
      ]

  pub one_picked : (n : ℕ) (x : ResourceData) → at n nodes ≡ Some x → q x ≡ true → picked_of n ≡ n ∷ []
  one_picked n x found t = rw (found, t) (ap (λ m. m ∷ []) (at_number n nodes x found))

  pub over_turn : (n : ℕ) (ns rest now after all : List ℕ) → ns ≡ n ∷ rest → now ++ picked_at ns ≡ all → after ≡ now ++ picked_of n → after ++ picked_at rest ≡ all
  over_turn n ns rest now after all split is more =
      ap (λ (ms : List ℕ). ms ++ picked_at rest) more
      ∙ append_assoc now (picked_of n) (picked_at rest)
      ∙ ap (λ (ms : List ℕ). now ++ ms) (first_of n rest)
      ∙ ap (λ (ms : List ℕ). now ++ picked_at ms) (sym split)
      ∙ is

  none_front : (front back : List ℕ) → front ++ back ≡ [] → front ≡ []
  none_front [] back e = refl
  none_front (k ∷ front) back e = cc

  none_behind : (front back : List ℕ) → front ++ back ≡ [] → back ≡ []
  none_behind [] back e = e
  none_behind (k ∷ front) back e = cc

  pub over_some : (n : ℕ) (ns rest now all : List ℕ) → ns ≡ n ∷ rest → now ++ picked_at ns ≡ all → picked_of n ≢ [] → all ≢ []
  over_some n ns rest now all split is some none =
      some (none_front (picked_of n) (picked_at rest)
      (none_behind now (picked_of n ++ picked_at rest)
      (ap (λ (ms : List ℕ). now ++ ms) (first_of n rest) ∙ ap (λ (ms : List ℕ). now ++ picked_at ms) (sym split) ∙ is ∙ none)))

-- ---- the sizes of instances, gone over

split_next : (n : ℕ) (nodes : List ResourceData) (x : ResourceData) → is_tree nodes ≡ true → next_after n nodes ≡ Some x → all_after n nodes ≡ x ∷ all_after x.number nodes
split_next n nodes x tree found = step_some n nodes (all_after n nodes) x (tree_ascends nodes tree) refl (sym found)

sizes_first : (c : ℕ) (x : ResourceData) (rest : List ResourceData) → sizes_of c (x ∷ rest) ≡ sizes_of c (x ∷ []) + sizes_of c rest
sizes_first c x rest = elim (cases_Bool (is_kin ContentInstance c x)) [
  | inl t ↦ rw t (let all = sum_by-cons instance_size x (instances_of c rest) in let one : sum_by instance_size (x ∷ []) ≡ instance_size x + 0 = sum_by-cons instance_size x [] in omega arith)
  | inr f ↦ rw f (sym (zero-add (sizes_of c rest)))
]

pub sizes_turn : (c n : ℕ) (nodes : List ResourceData) (x : ResourceData) (now size number all : ℕ) → is_tree nodes ≡ true → next_after n nodes ≡ Some x → number ≡ x.number → size ≡ sizes_of c (x ∷ []) → now + sizes_of c (all_after n nodes) ≡ all → now + size + sizes_of c (all_after number nodes) ≡ all
sizes_turn c n nodes x now size number all tree found same is whole =
    let split : sizes_of c (all_after n nodes) ≡ sizes_of c (x ∷ []) + sizes_of c (all_after x.number nodes) = ap (sizes_of c) (split_next n nodes x tree found) ∙ sizes_first c x (all_after x.number nodes) in
    let later : sizes_of c (all_after number nodes) ≡ sizes_of c (all_after x.number nodes) = ap (λ k. sizes_of c (all_after k nodes)) same in
    omega arith

pub sizes_end : (c n : ℕ) (nodes : List ResourceData) (now all : ℕ) → None ≡ next_after n nodes → now + sizes_of c (all_after n nodes) ≡ all → now ≡ all
sizes_end c n nodes now all none whole =
    let nothing : sizes_of c (all_after n nodes) ≡ 0 = ap (sizes_of c) (none_left n nodes none) in
    omega arith
