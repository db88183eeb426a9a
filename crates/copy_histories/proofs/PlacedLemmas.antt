-- What stands where a resource takes the place of another, and whose numbers a container pushes out.
use Rattle.std.specs.Prelude.{nat_eq}
use Rattle.std.proofs.Common.{◌≡◌, ℕ, ◌<◌, List, [], ◌∷◌, Bool, true, Option, Some, None, inl, inr, sym, ap, ◌∙◌, subst, arith}
use Rattle.std.proofs.lemmas.Bool.{cases_Bool, cases_eq, eqb-true}
use Rattle.std.proofs.lemmas.Option.{same_Some}
use Rattle.std.specs.List.{filter, list_any}
use Rattle.m2m_names.specs.declared.types.Ty.TheVariants.{ContentInstance}
use Rattle.resource_model.specs.Resource.{ResourceData, has_number, is_ty}
use Rattle.tree_model.specs.Tree.{at, instances_of, is_instance, is_tree, replaced}
use Rattle.tree_model.proofs.OrderLemmas.{above_has, ascend, ascend_parts, tree_ascends}
use Rattle.tree_model.proofs.TreeLemmas.{at_has, at-replaced, at-replaced_other, has_at, kin_parts}
use Rattle.container_limits.specs.Limits.{evicted, kept}
use Rattle.container_limits.specs.declared.limits.Limits.{Limits}
use Rattle.create_delete.proofs.KeptLemmas.{not_kept_parts}

-- ---- a resource in the place of another

module _ (t old : ResourceData) (nodes : List ResourceData) (there : at t.number nodes ≡ Some old) where
  abbrev placed : List ResourceData
  placed = replaced t nodes

  pub itself : at t.number placed ≡ Some t
  itself = at-replaced t nodes (at_has t.number nodes old there)

  -- what stood stands
  pub still_stands : (n : ℕ) (r : ResourceData) → at n nodes ≡ Some r → (s : ResourceData) × (at n placed ≡ Some s)
  still_stands n r found = elim (cases_eq n t.number) [
    | inl is ↦ (t, ap (λ (m : ℕ). at m placed) is ∙ itself)
    | inr apart ↦ (r, at-replaced_other n t nodes apart ∙ found)
  ]

  -- and is of its type
  pub same_type_there : t.ty ≡ old.ty → (n : ℕ) (r s : ResourceData) → at n nodes ≡ Some r → at n placed ≡ Some s → s.ty ≡ r.ty
  same_type_there ty n r s was is = elim (cases_eq n t.number) [
    | inl same ↦
        let now : t ≡ s = same_Some t s (sym itself ∙ ap (λ (m : ℕ). at m placed) (sym same) ∙ is) in
        let before : old ≡ r = same_Some old r (sym there ∙ ap (λ (m : ℕ). at m nodes) (sym same) ∙ was) in
        sym (ap (λ (x : ResourceData). x.ty) now) ∙ ty ∙ ap (λ (x : ResourceData). x.ty) before
    | inr apart ↦
        let one : r ≡ s = same_Some r s (sym was ∙ sym (at-replaced_other n t nodes apart) ∙ is) in
        sym (ap (λ (x : ResourceData). x.ty) one)
  ]

-- ---- what is pushed out

-- an instance stood there
pub record IsInstanceAt (m : ℕ) (nodes : List ResourceData) : Type 0 where
  pub instance : ResourceData
  pub there : at m nodes ≡ Some instance
  pub is : is_ty instance.ty ContentInstance ≡ true

filtered_passes : (p : ResourceData → Bool) (m : ℕ) (rs : List ResourceData) (x : ResourceData) → at m (filter p rs) ≡ Some x → p x ≡ true
filtered_passes p m [] x found = (let bad : None ≡ Some x = found in cc)
filtered_passes p m (r ∷ rs) x found = elim (cases_Bool (p r)) [
  | inl t ↦ elim (cases_Bool (has_number m r)) [
    | inl is ↦ (let one : Some r ≡ Some x = rw (t, is) at found in subst (λ (y : ResourceData). p y ≡ true) (same_Some r x one) t)
    | inr other ↦ filtered_passes p m rs x (rw (t, other) at found)
  ]
  | inr f ↦ filtered_passes p m rs x (rw f at found)
]

-- what a test picks of resources in order of their numbers stood there
at_unfiltered : (p : ResourceData → Bool) (m : ℕ) (rs : List ResourceData) (x : ResourceData) → ascend rs ≡ true → at m (filter p rs) ≡ Some x → at m rs ≡ Some x
at_unfiltered p m [] x order found = found
at_unfiltered p m (r ∷ rs) x order found =
    let parts = ascend_parts r rs order in
    elim (cases_Bool (has_number m r)) [
      | inl is ↦ elim (cases_Bool (p r)) [
        | inl t ↦ (let one : Some r ≡ Some x = rw (t, is) at found in rw is one)
        | inr f ↦
            let later : at m rs ≡ Some x = at_unfiltered p m rs x parts.rest (rw f at found) in
            let above : r.number < m = above_has r.number m rs parts.above (at_has m rs x later) in
            let same : r.number ≡ m = eqb-true r.number m is in
            absurd (omega arith)
      ]
      | inr other ↦ elim (cases_Bool (p r)) [
        | inl t ↦ rw other (at_unfiltered p m rs x parts.rest (rw (t, other) at found))
        | inr f ↦ rw other (at_unfiltered p m rs x parts.rest (rw f at found))
      ]
    ]

-- who is pushed out is an instance that stood
pub evicted_stood : (limits : Limits) (size : Option ℕ) (moment container m : ℕ) (nodes : List ResourceData) → is_tree nodes ≡ true → list_any (nat_eq m) (evicted limits size moment (instances_of container nodes)) ≡ true → IsInstanceAt m nodes
evicted_stood limits size moment container m nodes tree any =
    let rs = instances_of container nodes in
    let parts = not_kept_parts (kept limits size moment rs) rs m any in
    let found = has_at m rs parts.there in
    record {
      instance = found.0;
      there = at_unfiltered (is_instance container) m nodes found.0 (tree_ascends nodes tree) found.1;
      is = (kin_parts ContentInstance container found.0 (filtered_passes (is_instance container) m nodes found.0 found.1)).kind;
    }
