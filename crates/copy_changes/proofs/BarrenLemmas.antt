-- A removal of what nothing stands under takes that alone.
use Rattle.std.specs.Prelude.{◌⊎◌}
use Rattle.std.proofs.Common.{◌≡◌, ℕ, zero, suc, ◌<◌, List, [], ◌∷◌, Bool, true, false, not, ◌||◌, Option, Some, None, inl, inr, refl, sym, ap, ◌∙◌, subst, arith}
use Rattle.std.proofs.lemmas.Bool.{cases_Bool, or_cases, or_left}
use Rattle.std.specs.List.{list_any}
use Rattle.std.specs.Option.{option_map_or}
use Rattle.m2m_names.specs.Types.{does_take}
use Rattle.m2m_names.specs.declared.types.Ty.{Ty}
use Rattle.resource_model.specs.Resource.{ResourceData}
use Rattle.tree_model.proofs.ChangeLemmas.{line_none}
use Rattle.tree_model.proofs.GrowthLemmas.{stands, tree_from_well_formed}
use Rattle.tree_model.proofs.QuietLemmas.{number_passes}
use Rattle.tree_model.proofs.TakenLemmas.{all_taken}
use Rattle.tree_model.proofs.TreeLemmas.{at_number, has_from_at}
use Rattle.tree_model.specs.Tree.{at, is_spared, is_taken, is_tree, is_well_formed, line_of}
use Rattle.copy_laws.proofs.TextLemmas.{not_both}

-- what is picked takes nothing
abbrev pub AreBarren : (ResourceData → Bool) → List ResourceData → Type 0
AreBarren picks nodes = (c : ResourceData) → at c.number nodes ≡ Some c → picks c ≡ true → (ty : Ty) → does_take c.ty ty ≡ false

module _ (picks : ResourceData → Bool) (nodes : List ResourceData) (formed : is_well_formed nodes ≡ true) (barren : AreBarren picks nodes) where
  tree_is : is_tree nodes ≡ true
  tree_is = tree_from_well_formed nodes formed

  not_under : (r c : ResourceData) → at r.number nodes ≡ Some r → at r.parent nodes ≡ Some c → picks c ≡ true → ⊥
  not_under r c found above picked =
      let there : at c.number nodes ≡ Some c = ap (λ (n : ℕ). at n nodes) (at_number r.parent nodes c above) ∙ above in
      let taken : is_taken nodes r ≡ true = number_passes (is_taken nodes) r.number nodes r (all_taken nodes formed) found in
      let takes : does_take c.ty r.ty ≡ true = sym (ap (λ (o : Option ResourceData). option_map_or (λ p. does_take p.ty r.ty) o true) above) ∙ taken in
      not_both (does_take c.ty r.ty) takes (barren c there picked r.ty)

  -- what is picked in a line is its own
  own_within : (k n : ℕ) (r : ResourceData) → n < k → at n nodes ≡ Some r → list_any picks (line_of n nodes) ≡ true → picks r ≡ true
  own_within zero n r less found some = absurd (omega (arith, less))
  own_within (suc k) n r less found some =
      let line = stands nodes tree_is n r found in
      let both : (picks r || list_any picks (line_of r.parent nodes)) ≡ true = sym (ap (list_any picks) line.line) ∙ some in
      elim (or_cases (picks r) (list_any picks (line_of r.parent nodes)) both) [
        | inl own ↦ own
        | inr above ↦ absurd (by (λ c lower is over. own_within k r.parent c lower is over) line.above above (at r.parent nodes) refl)
      ]
    where
      by : ((c : ResourceData) → r.parent < k → at r.parent nodes ≡ Some c → list_any picks (line_of r.parent nodes) ≡ true → picks c ≡ true) → r.parent < n → list_any picks (line_of r.parent nodes) ≡ true → (o : Option ResourceData) → at r.parent nodes ≡ o → ⊥
      by own lower above None is =
          let empty : line_of r.parent nodes ≡ [] = line_none r.parent nodes tree_is (has_from_at r.parent nodes is) in
          let bad : false ≡ true = sym (ap (list_any picks) empty) ∙ above in
          cc
      by own lower above (Some c) is =
          let number : r.number ≡ n = at_number n nodes r found in
          not_under r c (ap (λ (m : ℕ). at m nodes) number ∙ found) is (own c (omega (arith, less, lower)) is above)

  -- what isn't spared is picked, and what is picked isn't spared
  pub own_picked : (n : ℕ) (r : ResourceData) → at n nodes ≡ Some r → is_spared picks nodes n ≡ false → picks r ≡ true
  own_picked n r found unspared = elim (cases_Bool (list_any picks (line_of n nodes))) [
    | inl some ↦ own_within (suc n) n r (omega arith) found some
    | inr none ↦ absurd (not_both (is_spared picks nodes n) (ap not none) unspared)
  ]

  pub picked_unspared : (n : ℕ) (r : ResourceData) → at n nodes ≡ Some r → picks r ≡ true → is_spared picks nodes n ≡ false
  picked_unspared n r found picked =
      let line = stands nodes tree_is n r found in
      let some : list_any picks (line_of n nodes) ≡ true = ap (list_any picks) line.line ∙ or_left _ _ picked in
      ap not some
