-- A resource below which none stands goes alone.
use Rattle.std.specs.Prelude.{◌==◌}
use Rattle.std.proofs.Common.{◌≡◌, ℕ, List, [], ◌∷◌, ◌++◌, Bool, true, false, cond, not, ◌&&◌, ◌||◌, Some, None, inl, inr, refl, sym, ap, ◌∙◌}
use Rattle.std.proofs.lemmas.Bool.{cases_Bool, or_cases, eq-eqb}
use Rattle.std.proofs.lemmas.List.Elements.{filter-append}
use Rattle.std.specs.List.{filter}
use Rattle.resource_model.specs.Resource.{ResourceData, has_number}
use Rattle.tree_model.specs.Tree.{at, has, children_of, is_root, is_tree, is_under, may_stand, stays, without}
use Rattle.tree_model.proofs.GrowthLemmas.{growth, has-filter, next_fits, root_parts}
use Rattle.tree_model.proofs.KeptLemmas.{without-snoc}

-- those that don't have a number
abbrev pub others : ℕ → List ResourceData → List ResourceData
others n nodes = filter (λ r. not (has_number n r)) nodes

-- where nothing has the number, all stay
pub missing_others : (n : ℕ) (nodes : List ResourceData) → at n nodes ≡ None → nodes ≡ others n nodes
missing_others n [] none = refl
missing_others n (s ∷ nodes) none = elim (cases_Bool (has_number n s)) [
  | inl t ↦ absurd (let wrong : Some s ≡ None = rw t at none in cc)
  | inr f ↦ rw f (ap (λ (rs : List ResourceData). s ∷ rs) (missing_others n nodes (rw f at none)))
]

no_front : (xs ys : List ResourceData) → xs ++ ys ≡ [] → (xs ≡ []) × (ys ≡ [])
no_front [] ys none = (refl, none)
no_front (x ∷ xs) ys some = cc

and_true : (a : Bool) → (a && true) ≡ a
and_true true = refl
and_true false = refl

-- a removal takes one resource, where none has it as its parent
pub leaf_without : (n : ℕ) (nodes : List ResourceData) → is_tree nodes ≡ true → children_of n nodes ≡ [] → without (has_number n) nodes ≡ others n nodes
leaf_without n = growth may_stand (λ nodes. children_of n nodes ≡ [] → without (has_number n) nodes ≡ others n nodes) (λ none. refl) (λ before r tree next holds none.
    let split = no_front (children_of n before) (filter (is_under n) (r ∷ [])) (sym (filter-append (is_under n) before (r ∷ [])) ∙ none) in
    let left : without (has_number n) before ≡ others n before = holds split.0 in
    let elsewhere : (r.parent == n) ≡ false = (elim (cases_Bool (r.parent == n)) as (λ v. (r.parent == n) ≡ false) [
      | inl t ↦ absurd (let wrong : r ∷ [] ≡ [] = rw t at split.1 in cc)
      | inr f ↦ f
    ]) in
    let there : has r.parent (others n before) ≡ has r.parent before = has-filter (λ m. not (m == n)) r.parent before ∙ ap (λ b. has r.parent before && not b) elsewhere ∙ and_true (has r.parent before) in
    let kept : ((r.parent == 0) || has r.parent (others n before)) ≡ true = ap (λ b. (r.parent == 0) || b) there ∙ (elim (or_cases (has r.parent before) (is_root before r) (next_fits before r next).parent) as (λ v. ((r.parent == 0) || has r.parent before) ≡ true) [
      | inl t ↦ or_yes (r.parent == 0) (has r.parent before) t
      | inr root ↦ ap (λ b. b || has r.parent before) (eq-eqb r.parent 0 (root_parts before r root).parent)
    ]) in
    let stay : stays (has_number n) (without (has_number n) before) r ≡ not (has_number n r) = ap (λ (ss : List ResourceData). stays (has_number n) ss r) left ∙ ap (λ b. not (has_number n r) && b) kept ∙ and_true (not (has_number n r)) in
    without-snoc (has_number n) before r
    ∙ ap (λ (ss : List ResourceData). ss ++ cond (stays (has_number n) (without (has_number n) before) r) (r ∷ []) []) left
    ∙ ap (λ b. others n before ++ cond b (r ∷ []) []) stay
    ∙ sym (filter-append (λ s. not (has_number n s)) before (r ∷ [])))
  where
    or_yes : (a b : Bool) → b ≡ true → (a || b) ≡ true
    or_yes true b t = refl
    or_yes false b t = t
