-- How deep a resource stands, found by going up.
use Rattle.std.specs.Prelude.{nat_lt}
use Rattle.std.proofs.Common.{◌≡◌, ℕ, ◌+◌, ◌-◌, ◌<◌, ◌≤◌, List, length, true, false, Option, Some, None, inl, inr, refl, sym, ap, ◌∙◌, arith}
use Rattle.std.proofs.lemmas.Bool.{both_ways, cases_Bool, eqb-true, ltb-true, ltb-false, lt-ltb, le-ltb}
use Rattle.std.specs.Option.{option_map_or}
use Rattle.m2m_names.specs.Types.{does_take}
use Rattle.m2m_names.specs.declared.types.Ty.{Ty}
use Rattle.m2m_names.specs.declared.types.Ty.TheVariants.{Ae, CseBase}
use Rattle.m2m_names.proofs.TypeLemmas.{same_type}
use Rattle.resource_model.specs.Resource.{ResourceData, is_ty}
use Rattle.tree_model.specs.Tree.{at, level_of, is_taken, is_tree, is_well_formed}
use Rattle.tree_model.proofs.GrowthLemmas.{stands, tree_from_well_formed}
use Rattle.tree_model.proofs.QuietLemmas.{number_passes}
use Rattle.tree_model.proofs.TakenLemmas.{all_taken}
use Rattle.tree_model.proofs.TreeLemmas.{has_from_at}
use Rattle.entity_model.proofs.RemovalLemmas.{no_depth}

-- one deeper than its parent
depth_up : (nodes : List ResourceData) (n : ℕ) (r : ResourceData) → is_tree nodes ≡ true → at n nodes ≡ Some r → level_of n nodes ≡ level_of r.parent nodes + 1
depth_up nodes n r tree found = ap length (stands nodes tree n r found).line ∙ omega arith

pub less_deep_up : (nodes : List ResourceData) (n bound : ℕ) (r : ResourceData) → is_tree nodes ≡ true → at n nodes ≡ Some r → 0 < bound → nat_lt (level_of r.parent nodes) (bound - 1) ≡ nat_lt (level_of n nodes) bound
less_deep_up nodes n bound r tree found some =
    let up : level_of n nodes ≡ level_of r.parent nodes + 1 = depth_up nodes n r tree found in
    elim (cases_Bool (nat_lt (level_of r.parent nodes) (bound - 1))) [
      | inl t ↦
          let less : level_of r.parent nodes < bound - 1 = ltb-true _ _ t in
          t ∙ sym (lt-ltb (level_of n nodes) bound (omega arith))
      | inr f ↦
          let most : bound - 1 ≤ level_of r.parent nodes = ltb-false _ _ f in
          f ∙ sym (le-ltb (level_of n nodes) bound (omega arith))
    ]

-- and so below one that stands there
pub less_deep_below : (nodes : List ResourceData) (r : ResourceData) → is_tree nodes ≡ true → at r.number nodes ≡ Some r → nat_lt (level_of r.parent nodes) 31 ≡ nat_lt (level_of r.number nodes) 32
less_deep_below nodes r tree found = less_deep_up nodes r.number 32 r tree found (omega arith)

-- what isn't there is less deep than anything
pub less_deep_nowhere : (nodes : List ResourceData) (n bound : ℕ) → is_tree nodes ≡ true → at n nodes ≡ None → 0 < bound → nat_lt (level_of n nodes) bound ≡ true
less_deep_nowhere nodes n bound tree none some =
    let nothing : level_of n nodes ≡ 0 = no_depth n nodes tree (has_from_at n nodes none) in
    lt-ltb (level_of n nodes) bound (omega arith)

-- ---- what stands right below the CSEBase

-- an application entity stands under a CSEBase alone
under_base : (p : Ty) → does_take p Ae ≡ true → p ≡ CseBase
under_base CseBase taken = refl
under_base p taken = absurd (both_ways _ refl taken)

-- which no type takes
no_base : (p : Ty) → does_take p CseBase ≡ false
no_base CseBase = refl
no_base _ = refl

taken_by : (nodes : List ResourceData) (n : ℕ) (r p : ResourceData) → is_well_formed nodes ≡ true → at n nodes ≡ Some r → at r.parent nodes ≡ Some p → does_take p.ty r.ty ≡ true
taken_by nodes n r p well found above =
    sym (ap (λ (o : Option ResourceData). option_map_or (λ p. does_take p.ty r.ty) o true) above)
    ∙ number_passes (is_taken nodes) n nodes r (all_taken nodes well) found

-- so a CSEBase stands on top
base_level : (nodes : List ResourceData) (n : ℕ) (p : ResourceData) → is_well_formed nodes ≡ true → at n nodes ≡ Some p → p.ty ≡ CseBase → level_of n nodes ≡ 1
base_level nodes n p well found base =
    let tree = tree_from_well_formed nodes well in
    depth_up nodes n p tree found
    ∙ ap (λ (k : ℕ). k + 1) (no_depth p.parent nodes tree (has_from_at p.parent nodes (nothing (at p.parent nodes) refl)))
  where
    nothing : (o : Option ResourceData) → at p.parent nodes ≡ o → at p.parent nodes ≡ None
    nothing None is = is
    nothing (Some q) is =
        absurd (both_ways (does_take q.ty CseBase) (no_base q.ty) (sym (ap (does_take q.ty) base) ∙ taken_by nodes n p q well found is))

-- and an application entity at depth 2 at most
ae_level : (nodes : List ResourceData) (n : ℕ) (r : ResourceData) → is_well_formed nodes ≡ true → at n nodes ≡ Some r → is_ty r.ty Ae ≡ true → level_of n nodes ≤ 2
ae_level nodes n r well found ae =
    let up : level_of n nodes ≡ level_of r.parent nodes + 1 = depth_up nodes n r (tree_from_well_formed nodes well) found in
    let above : level_of r.parent nodes ≤ 1 = highest (at r.parent nodes) refl in
    omega arith
  where
    highest : (o : Option ResourceData) → at r.parent nodes ≡ o → level_of r.parent nodes ≤ 1
    highest None is =
        let nowhere : level_of r.parent nodes ≡ 0 = no_depth r.parent nodes (tree_from_well_formed nodes well) (has_from_at r.parent nodes is) in
        omega arith
    highest (Some p) is =
        let kind : r.ty ≡ Ae = same_type r.ty Ae (eqb-true _ _ ae) in
        let base : p.ty ≡ CseBase = under_base p.ty (sym (ap (does_take p.ty) kind) ∙ taken_by nodes n r p well found is) in
        let top : level_of r.parent nodes ≡ 1 = base_level nodes r.parent p well is base in
        omega arith

pub ae_less_deep : (nodes : List ResourceData) (n bound : ℕ) (r : ResourceData) → is_well_formed nodes ≡ true → at n nodes ≡ Some r → is_ty r.ty Ae ≡ true → 2 < bound → nat_lt (level_of n nodes) bound ≡ true
ae_less_deep nodes n bound r well found ae some =
    let least : level_of n nodes ≤ 2 = ae_level nodes n r well found ae in
    lt-ltb (level_of n nodes) bound (omega arith)
