-- What is left of a list where what isn't kept of it is removed.
use Rattle.std.specs.Prelude.{nat_eq, nat_lt, sum_by}
use Rattle.std.proofs.Common.{◌≡◌, ℕ, ◌+◌, ◌<◌, ◌≤◌, List, [], ◌∷◌, ◌++◌, length, Bool, true, not, ◌&&◌, ◌||◌, inl, inr, refl, sym, ap, ◌∙◌, subst, arith, false}
use Rattle.std.proofs.lemmas.Bool.{cases_Bool, and_parts, and_from, or_right, ltb-true, eq-eqb, ne_eqb, not_from_false, not-true}
use Rattle.std.proofs.lemmas.List.Sums.{sum_by-cons}
use Rattle.std.specs.List.{filter, list_any, list_all}
use Rattle.resource_model.specs.Resource.{ResourceData}
use Rattle.tree_model.specs.Tree.{has, stays, staying}
use Rattle.tree_model.proofs.AmongLemmas.{is_not_kept}
use Rattle.container_limits.specs.Limits.{numbers_of}
use Rattle.tree_model.proofs.StepLemmas.{not_not}
use Rattle.tree_model.proofs.OrderLemmas.{are_above, ascend, above_lacks, ascend_parts}
use Rattle.m2m_names.proofs.ListLemmas.{all_filtered, filter_agree, append_parts}
use Rattle.tree_model.proofs.TreeLemmas.{filter_among, stays_parts}

-- ---- filters

-- what holds of those that a filter picks holds of each that it picks
pub all_unfiltered : (q p : ResourceData → Bool) (rs : List ResourceData) → list_all q (filter p rs) ≡ true → list_all (λ s. not (p s) || q s) rs ≡ true
all_unfiltered q p [] all = refl
all_unfiltered q p (r ∷ rs) all = elim (cases_Bool (p r)) [
  | inl t ↦ (let parts = and_parts (q r) (list_all q (filter p rs)) (rw t at all) in and_from _ _ (or_right _ _ parts.0) (all_unfiltered q p rs parts.1))
  | inr f ↦ rw f (all_unfiltered q p rs (rw f at all))
]

-- two tests give a third
pub all_by_two : (p q t : ResourceData → Bool) → ((s : ResourceData) → p s ≡ true → q s ≡ true → t s ≡ true) → (rs : List ResourceData) → list_all p rs ≡ true → list_all q rs ≡ true → list_all t rs ≡ true
all_by_two p q t by [] one two = refl
all_by_two p q t by (r ∷ rs) one two =
    let a = and_parts (p r) (list_all p rs) one in
    let b = and_parts (q r) (list_all q rs) two in
    and_from _ _ (by r a.0 b.0) (all_by_two p q t by rs a.1 b.1)

-- ---- the list that is kept

abbrev rest_of : List ResourceData → List ResourceData
rest_of [] = []
rest_of (r ∷ rs) = rs

abbrev first_or : ResourceData → List ResourceData → ResourceData
first_or d [] = d
first_or d (r ∷ rs) = r

kept_above : (p : ResourceData → Bool) (n : ℕ) (front kept rs : List ResourceData) → are_above n rs ≡ true → front ++ kept ≡ filter p rs → are_above n kept ≡ true
kept_above p n front kept rs above is =
    (append_parts (λ s. nat_lt n s.number) front kept (ap (are_above n) is ∙ all_filtered (λ s. nat_lt n s.number) p rs above)).back

-- what is kept of the rest has just its own
abbrev KeepsOwn : (ResourceData → Bool) → List ResourceData → Type 0
KeepsOwn p rs = (front kept : List ResourceData) → front ++ kept ≡ filter p rs → filter (λ s. has s.number kept) rs ≡ kept

kept_later : (p : ResourceData → Bool) (front kept : List ResourceData) (r : ResourceData) (rs : List ResourceData) → are_above r.number rs ≡ true → KeepsOwn p rs → front ++ kept ≡ filter p rs → filter (λ s. has s.number kept) (r ∷ rs) ≡ kept
kept_later p front kept r rs above own is = rw (above_lacks r.number kept (kept_above p r.number front kept rs above is)) (own front kept is)

kept_first : (p : ResourceData → Bool) (front kept : List ResourceData) (r : ResourceData) (rs : List ResourceData) → are_above r.number rs ≡ true → KeepsOwn p rs → front ++ kept ≡ r ∷ filter p rs → filter (λ s. has s.number kept) (r ∷ rs) ≡ kept
kept_first p (f ∷ front) kept r rs above own is = kept_later p front kept r rs above own (ap rest_of is)
kept_first p [] [] r rs above own is = cc
kept_first p [] (k ∷ kept) r rs above own is =
    let first : k ≡ r = ap (first_or r) is in
    let rest : kept ≡ filter p rs = ap rest_of is in
    let later : filter (λ s. has s.number kept) rs ≡ kept = own [] kept rest in
    let other : filter (λ s. has s.number (r ∷ kept)) rs ≡ filter (λ s. has s.number kept) rs = filter_agree (λ s. nat_lt r.number s.number) (λ s. has s.number (r ∷ kept)) (λ s. has s.number kept) (λ s less. ap (λ b. b || has s.number kept) (ne_eqb r.number s.number (λ e. let lower : r.number < s.number = ltb-true r.number s.number less in omega arith))) rs above in
    let whole : filter (λ s. has s.number (r ∷ kept)) (r ∷ rs) ≡ r ∷ kept = rw (eq-eqb r.number r.number refl) (ap (λ (ss : List ResourceData). r ∷ ss) (other ∙ later)) in
    subst (λ (x : ResourceData). filter (λ s. has s.number (x ∷ kept)) (r ∷ rs) ≡ x ∷ kept) (sym first) whole

-- of a list in order of numbers, a suffix of what a filter picks has just its own
pub in_kept : (p : ResourceData → Bool) (rs : List ResourceData) → ascend rs ≡ true → KeepsOwn p rs
in_kept p [] order [] [] is = refl
in_kept p [] order [] (k ∷ kept) is = cc
in_kept p [] order (f ∷ front) kept is = cc
in_kept p (r ∷ rs) order front kept is =
    let parts = ascend_parts r rs order in
    elim (cases_Bool (p r)) [
      | inl t ↦ kept_first p front kept r rs parts.above (in_kept p rs parts.rest) (is ∙ rw t refl)
      | inr f ↦ kept_later p front kept r rs parts.above (in_kept p rs parts.rest) (is ∙ rw f refl)
    ]

-- ---- numbers

-- the numbers of those that aren't kept
abbrev pub not_kept : List ResourceData → List ResourceData → List ℕ
not_kept kept rs = numbers_of (filter (λ s. not (has s.number kept)) rs)

-- a number of what isn't kept
pub record IsNotKept (kept rs : List ResourceData) (n : ℕ) : Type 0 where
  pub there : has n rs ≡ true
  pub gone : has n kept ≡ false

pub not_kept_parts : (kept rs : List ResourceData) (n : ℕ) → list_any (nat_eq n) (not_kept kept rs) ≡ true → IsNotKept kept rs n
not_kept_parts kept rs n picked =
    let parts = and_parts (has n rs) (not (has n kept)) (sym (is_not_kept kept rs n) ∙ picked) in
    record { there = parts.0; gone = not-true _ parts.1 }

-- where those that aren't kept go, those that are kept are left
pub left_are_kept : (p : ResourceData → Bool) (front kept rs : List ResourceData) → ascend rs ≡ true → front ++ kept ≡ filter p rs → filter (λ s. not (list_any (nat_eq s.number) (not_kept kept rs))) rs ≡ kept
left_are_kept p front kept rs order is =
    filter_among _ _ rs (λ s there. ap not (is_not_kept kept rs s.number) ∙ ap (λ b. not (b && not (has s.number kept))) there ∙ not_not (has s.number kept))
    ∙ in_kept p rs order front kept is

-- ---- what a removal leaves of those that a test picks

pub left_count : (p q : ResourceData → Bool) (stayed nodes : List ResourceData) → length (filter q (staying p stayed nodes)) ≤ length (filter (λ s. not (p s)) (filter q nodes))
left_count p q stayed [] = omega arith
left_count p q stayed (r ∷ nodes) = elim (cases_Bool (stays p stayed r)) [
  | inl t ↦
      let free : not (p r) ≡ true = not_from_false _ (stays_parts p stayed r t).unpicked in
      elim (cases_Bool (q r)) [
        | inl u ↦ rw (t, u, free) (omega (arith, left_count p q (stayed ++ r ∷ []) nodes))
        | inr v ↦ rw (t, v) (left_count p q (stayed ++ r ∷ []) nodes)
      ]
  | inr f ↦ elim (cases_Bool (q r)) [
    | inl u ↦ elim (cases_Bool (not (p r))) [
      | inl w ↦ rw (f, u, w) (omega (arith, left_count p q stayed nodes))
      | inr x ↦ rw (f, u, x) (left_count p q stayed nodes)
    ]
    | inr v ↦ rw (f, v) (left_count p q stayed nodes)
  ]
]

pub left_sum : (p q : ResourceData → Bool) (size : ResourceData → ℕ) (stayed nodes : List ResourceData) → sum_by size (filter q (staying p stayed nodes)) ≤ sum_by size (filter (λ s. not (p s)) (filter q nodes))
left_sum p q size stayed [] = omega arith
left_sum p q size stayed (r ∷ nodes) = elim (cases_Bool (stays p stayed r)) [
  | inl t ↦
      let free : not (p r) ≡ true = not_from_false _ (stays_parts p stayed r t).unpicked in
      let rest : sum_by size (filter q (staying p (stayed ++ r ∷ []) nodes)) ≤ sum_by size (filter (λ s. not (p s)) (filter q nodes)) = left_sum p q size (stayed ++ r ∷ []) nodes in
      elim (cases_Bool (q r)) [
        | inl u ↦
            let left : sum_by size (filter q (staying p stayed (r ∷ nodes))) ≡ size r + sum_by size (filter q (staying p (stayed ++ r ∷ []) nodes)) = rw (t, u) (sum_by-cons size r (filter q (staying p (stayed ++ r ∷ []) nodes))) in
            let all : sum_by size (filter (λ s. not (p s)) (filter q (r ∷ nodes))) ≡ size r + sum_by size (filter (λ s. not (p s)) (filter q nodes)) = rw (u, free) (sum_by-cons size r (filter (λ s. not (p s)) (filter q nodes))) in
            omega arith
        | inr v ↦ rw (t, v) rest
      ]
  | inr f ↦
      let rest : sum_by size (filter q (staying p stayed nodes)) ≤ sum_by size (filter (λ s. not (p s)) (filter q nodes)) = left_sum p q size stayed nodes in
      elim (cases_Bool (q r)) [
        | inl u ↦ elim (cases_Bool (not (p r))) [
          | inl w ↦
              let all : sum_by size (filter (λ s. not (p s)) (filter q (r ∷ nodes))) ≡ size r + sum_by size (filter (λ s. not (p s)) (filter q nodes)) = rw (u, w) (sum_by-cons size r (filter (λ s. not (p s)) (filter q nodes))) in
              let left : sum_by size (filter q (staying p stayed (r ∷ nodes))) ≡ sum_by size (filter q (staying p stayed nodes)) = rw f refl in
              omega arith
          | inr x ↦ rw (f, u, x) rest
        ]
        | inr v ↦ rw (f, v) rest
      ]
]
