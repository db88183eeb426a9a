-- The CSEBase is the first resource, and the only one under none.
use Rattle.std.proofs.Common.{◌≡◌, ◌<◌, ℕ, List, [], ◌∷◌, ◌++◌, drop, length, true, false, not, ◌&&◌, Option, Some, None, if◌then◌else◌, bytes_eq, inl, inr, refl, ap, ◌∙◌, subst, arith}
use Rattle.std.specs.Prelude.{find}
use Rattle.std.specs.List.{list_all, slice_get}
use Rattle.std.proofs.lemmas.Bool.{and_from, and_parts, both_ways, cases_Bool, eq-eqb, ne_eqb, not-true, or_cases}
use Rattle.std.proofs.lemmas.List.Folds.{list_all-append}
use Rattle.std.proofs.lemmas.Option.{same_Some}
use Rattle.resource_model.specs.Resource.{ResourceData}
use Rattle.tree_model.specs.Tree.{child_of, grows, has, is_child, is_root, is_tree, is_under, may_stand, resource_number}
use Rattle.tree_model.proofs.GrowthLemmas.{growth, next_fits, root_parts, stands}
use Rattle.tree_model.proofs.TreeLemmas.{has_at}

-- none of the later ones stands under none
later_stand : (before : List ResourceData) (r : ResourceData) → grows may_stand [] before ≡ true → may_stand before r ≡ true → list_all (λ s. not (is_under 0 s)) (drop 1 before) ≡ true → list_all (λ s. not (is_under 0 s)) (drop 1 (before ++ r ∷ [])) ≡ true
later_stand [] r grew next holds = refl
later_stand (s ∷ before) r grew next holds =
    let fits = next_fits (s ∷ before) r next in
    elim (or_cases (has r.parent (s ∷ before)) (is_root (s ∷ before) r) fits.parent) [
      | inl there ↦
          let found = has_at r.parent (s ∷ before) there in
          let above : (found.0).parent < r.parent = (stands (s ∷ before) grew r.parent found.0 found.1).above in
          let other : is_under 0 r ≡ false = ne_eqb r.parent 0 (λ e. omega arith) in
          list_all-append (λ s. not (is_under 0 s)) before (r ∷ []) ∙ and_from _ _ holds (rw other refl)
      | inr root ↦ absurd (both_ways _ refl root)
    ]

later_under : (nodes : List ResourceData) → is_tree nodes ≡ true → list_all (λ s. not (is_under 0 s)) (drop 1 nodes) ≡ true
later_under = growth may_stand (λ nodes. list_all (λ s. not (is_under 0 s)) (drop 1 nodes) ≡ true) refl later_stand

-- the first one does
first_under : (nodes : List ResourceData) (r : ResourceData) → is_tree (r ∷ nodes) ≡ true → is_under 0 r ≡ true
first_under nodes r tree =
    let parts = and_parts (may_stand [] r) _ tree in
    elim (or_cases (has r.parent []) (is_root [] r) (next_fits [] r parts.0).parent) [
      | inl there ↦ absurd (both_ways _ refl there)
      | inr root ↦ eq-eqb r.parent 0 (root_parts [] r root).parent
    ]

none_named : (name : List ℕ) (nodes : List ResourceData) → list_all (λ s. not (is_under 0 s)) nodes ≡ true → find (is_child 0 name) nodes ≡ None
none_named name [] later = refl
none_named name (s ∷ nodes) later =
    let parts = and_parts (not (is_under 0 s)) _ later in
    let other : is_under 0 s ≡ false = not-true _ parts.0 in
    rw other (none_named name nodes parts.1)

-- so a name under none is that of the first
first_named : (name : List ℕ) (nodes : List ResourceData) (r : ResourceData) → is_tree (r ∷ nodes) ≡ true → child_of 0 name (r ∷ nodes) ≡ (if bytes_eq r.name name then Some r.number else None)
first_named name nodes r tree =
    let top : is_under 0 r ≡ true = first_under nodes r tree in
    elim (cases_Bool (bytes_eq r.name name)) [
      | inl t ↦ rw (top, t) refl
      | inr f ↦ rw (top, f) (ap resource_number (none_named name nodes (later_under (r ∷ nodes) tree)))
    ]

pub child_of_first : (name : List ℕ) (nodes : List ResourceData) (r : ResourceData) → is_tree nodes ≡ true → slice_get nodes 0 ≡ Some r → child_of 0 name nodes ≡ (if bytes_eq r.name name then Some r.number else None)
child_of_first name [] r tree first = cc
child_of_first name (s ∷ nodes) r tree first =
    let same : s ≡ r = same_Some s r first in
    subst (λ (x : ResourceData). child_of 0 name (s ∷ nodes) ≡ (if bytes_eq x.name name then Some x.number else None)) same (first_named name nodes s tree)

-- and without a first there is none
pub child_of_none : (name : List ℕ) (nodes : List ResourceData) → slice_get nodes 0 ≡ None → child_of 0 name nodes ≡ None
child_of_none name [] none = refl
child_of_none name (s ∷ nodes) none = cc

pub without_any : (name : List ℕ) (nodes : List ResourceData) → length nodes ≡ 0 → child_of 0 name nodes ≡ None
without_any name [] none = refl
without_any name (s ∷ nodes) none = absurd (omega arith)
