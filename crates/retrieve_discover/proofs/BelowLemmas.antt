-- The descendants of a resource, child by child.
use Rattle.std.proofs.Common.{◌≡◌, ℕ, ◌<◌, List, [], ◌∷◌, ◌++◌, true, inl, inr, refl, sym, ap, ◌∙◌, arith}
use Rattle.std.specs.List.{flat_map}
use Rattle.std.proofs.lemmas.Bool.{cases_Bool, ne_eqb}
use Rattle.resource_model.specs.Resource.{ResourceData}
use Rattle.tree_model.specs.Tree.{children_of, is_tree, is_under}
use Rattle.retrieve_discover.specs.Descendants.{below}
use Rattle.retrieve_discover.proofs.OrderLemmas.{in_order, in_order-tree, first_of}
use Rattle.tree_model.proofs.OrderLemmas.{are_above, above_parts, above_filter}

-- a resource with what stands below it
abbrev pub with_below : List ResourceData → ResourceData → List ResourceData
with_below nodes r = r ∷ below r.number nodes

-- what stands below a later resource isn't the first of the list
below_skips : (n : ℕ) (r : ResourceData) (later : List ResourceData) → r.parent < n → below n (r ∷ later) ≡ below n later
below_skips n r later less = rw (ne_eqb r.parent n (λ e. omega (arith, less, e))) refl

skip_all : (r : ResourceData) (later kids : List ResourceData) → r.parent < r.number → are_above r.number kids ≡ true → flat_map (with_below (r ∷ later)) kids ≡ flat_map (with_below later) kids
skip_all r later [] parent above = refl
skip_all r later (c ∷ kids) parent above =
    let parts = above_parts r.number c kids above in
    let less : r.number < c.number = parts.first in
    let here : below c.number (r ∷ later) ≡ below c.number later = below_skips c.number r later (omega (arith, less, parent)) in
    ap (λ xs. (c ∷ xs) ++ flat_map (with_below (r ∷ later)) kids) here ∙ ap (λ ys. with_below later c ++ ys) (skip_all r later kids parent parts.rest)

below_kids : (n : ℕ) (nodes : List ResourceData) → in_order nodes ≡ true → below n nodes ≡ flat_map (with_below nodes) (children_of n nodes)
below_kids n [] order = refl
below_kids n (r ∷ later) order =
    let first = first_of r later order in
    let rest : flat_map (with_below (r ∷ later)) (children_of n later) ≡ below n later =
    skip_all r later (children_of n later) first.parent (above_filter (is_under n) r.number later first.above)
    ∙ sym (below_kids n later first.rest) in
    elim (cases_Bool (is_under n r)) [
      | inl t ↦ rw t (ap (λ xs. r ∷ (xs ++ below n later)) (sym (below_skips r.number r later first.parent)) ∙ ap (λ ys. with_below (r ∷ later) r ++ ys) (sym rest))
      | inr f ↦ rw f (sym rest)
    ]

-- the descendants are the children in order, each with what stands below it
pub below_by_kids : (n : ℕ) (nodes : List ResourceData) → is_tree nodes ≡ true → below n nodes ≡ flat_map (with_below nodes) (children_of n nodes)
below_by_kids n nodes tree = below_kids n nodes (in_order-tree nodes tree)
