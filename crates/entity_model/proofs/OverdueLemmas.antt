-- What is overdue: where it goes by its numbers, what is live is left.
use Rattle.std.specs.Prelude.{nat_eq}
use Rattle.std.proofs.Common.{◌≡◌, ◌==◌, ℕ, List, [], ◌∷◌, ◌++◌, Bool, true, false, not, ◌||◌, inl, inr, refl, sym, ap, ◌∙◌}
use Rattle.std.proofs.lemmas.Bool.{cases_Bool, and_parts, and_from, both_ways, eq-eqb, eqb-true, false_from_ne_true, not-true, not_from_false, or_cases, or_left, or_parts, or_right}
use Rattle.std.specs.List.{filter, list_any, AllByRecursion}
use Rattle.resource_model.specs.Resource.{ResourceData, has_number}
use Rattle.tree_model.specs.Tree.{has, is_due, is_numbered_in, is_tree, live, numbers_of, overdue_numbers, stays, staying, without_all}
use Rattle.tree_model.proofs.KeptLemmas.{is_tree-without}
use Rattle.tree_model.proofs.LiveLemmas.{without_none}
use Rattle.tree_model.proofs.OrderLemmas.{tree_ascends}
use Rattle.tree_model.proofs.OverdueLemmas.{gone_here}
use Rattle.tree_model.proofs.TreeLemmas.{at_has}
use Rattle.entity_model.proofs.LoweringLemmas.{each_of}
use Rattle.entity_model.proofs.SoundLemmas.{none_live}

-- two tests of which the second picks what the first does, and else only what the first takes too, take the same
same_taken : (p q : ResourceData → Bool) (stayed nodes : List ResourceData) → ((s : ResourceData) → q s ≡ true → has s.number (staying p stayed nodes) ≡ false) → AllByRecursion (λ s. p s ≡ true → q s ≡ true) nodes → staying q stayed nodes ≡ staying p stayed nodes
same_taken p q stayed [] gone each = refl
same_taken p q stayed (r ∷ nodes) gone each = elim (cases_Bool (stays p stayed r)) [
  | inl t ↦
      let rest = staying p (stayed ++ r ∷ []) nodes in
      let left : (s : ResourceData) → q s ≡ true → (has_number s.number r || has s.number rest) ≡ false = λ s u. rw t at gone s u in
      let own : q r ≡ false = false_from_ne_true _ (λ u. both_ways _ (or_parts (has_number r.number r) (has r.number rest) (left r u)).0 (eq-eqb r.number r.number refl)) in
      let kept : stays q stayed r ≡ true = and_from _ _ (not_from_false _ own) (and_parts (not (p r)) ((r.parent == 0) || has r.parent stayed) t).1 in
      rw (t, kept) (ap (λ (rs : List ResourceData). r ∷ rs) (same_taken p q (stayed ++ r ∷ []) nodes (λ s u. (or_parts (has_number s.number r) (has s.number rest) (left s u)).1) each.1))
  | inr f ↦
      let out : stays q stayed r ≡ false = false_from_ne_true _ (λ u.
      let parts = and_parts (not (q r)) ((r.parent == 0) || has r.parent stayed) u in
      elim (cases_Bool (p r)) [
        | inl picked ↦ both_ways _ (not-true _ parts.0) (each.0 picked)
        | inr unpicked ↦ both_ways _ f (and_from _ _ (not_from_false _ unpicked) parts.1)
      ]) in
      rw (f, out) (same_taken p q stayed nodes (λ s u. rw f at gone s u) each.1)
]

-- the numbers of what a test on numbers picks
module _ (picks : ℕ → Bool) (n : ℕ) where
  picked_passes : (rs : List ResourceData) → list_any (nat_eq n) (numbers_of (filter (λ r. picks r.number) rs)) ≡ true → picks n ≡ true
  picked_passes [] any = cc
  picked_passes (r ∷ rs) any = elim (cases_Bool (picks r.number)) [
    | inl t ↦ elim (or_cases (nat_eq n r.number) _ (rw t at any)) [
      | inl same ↦ ap picks (eqb-true n r.number same) ∙ t
      | inr rest ↦ picked_passes rs rest
    ]
    | inr f ↦ picked_passes rs (rw f at any)
  ]

  passing_picked : (rs : List ResourceData) → has n rs ≡ true → picks n ≡ true → list_any (nat_eq n) (numbers_of (filter (λ r. picks r.number) rs)) ≡ true
  passing_picked [] there t = cc
  passing_picked (r ∷ rs) there t = elim (or_cases (has_number n r) (has n rs) there) [
    | inl own ↦
        let is : r.number ≡ n = eqb-true r.number n own in
        let picked : picks r.number ≡ true = ap picks is ∙ t in
        rw picked (or_left _ _ (eq-eqb n r.number (sym is)))
    | inr other ↦
        let rest = passing_picked rs other t in
        elim (cases_Bool (picks r.number)) [
          | inl u ↦ rw u (or_right _ _ rest)
          | inr v ↦ rw v rest
        ]
  ]

-- without what is overdue, what is live is left
pub without_overdue : (moment : ℕ) (nodes : List ResourceData) → is_tree nodes ≡ true → without_all (overdue_numbers moment nodes) nodes ≡ live moment nodes
without_overdue moment nodes tree =
    let goes : ℕ → Bool = λ n. not (has n (live moment nodes)) in
    same_taken (is_due nodes moment) (is_numbered_in (overdue_numbers moment nodes)) [] nodes
    (λ s listed. not-true _ (picked_passes goes s.number nodes listed))
    (each_of (λ s. is_due nodes moment s ≡ true → is_numbered_in (overdue_numbers moment nodes) s ≡ true) nodes (tree_ascends nodes tree)
    (λ s found due. passing_picked goes s.number nodes (at_has s.number nodes s found) (sym (gone_here nodes moment tree s found due))))

-- and what is live stays so
pub live_still : (moment : ℕ) (nodes : List ResourceData) → is_tree nodes ≡ true → live moment (live moment nodes) ≡ live moment nodes
live_still moment nodes tree =
    let left = live moment nodes in
    without_none (is_due left moment) left (is_tree-without (is_due nodes moment) nodes tree) (none_live nodes moment tree)
