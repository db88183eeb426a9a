-- How deep a resource stands, found by going up.
use Rattle.std.specs.Prelude.{nat_le, nat_lt}
use Rattle.std.proofs.Common.{◌≡◌, ℕ, ◌+◌, ◌-◌, ◌<◌, ◌≤◌, List, length, true, false, Option, Some, None, inl, inr, refl, sym, ap, ◌∙◌, arith}
use Rattle.std.proofs.lemmas.Bool.{cases_Bool, ltb-true, ltb-false, lt-ltb, le-ltb, leb-true, leb-false}
use Rattle.resource_model.specs.Resource.{ResourceData}
use Rattle.tree_model.specs.Tree.{at, level_of, is_tree}
use Rattle.tree_model.proofs.GrowthLemmas.{stands}
use Rattle.tree_model.proofs.TreeLemmas.{has_from_at}
use Rattle.entity_model.proofs.RemovalLemmas.{no_depth}

-- one deeper than its parent
depth_up : (nodes : List ResourceData) (n : ℕ) (r : ResourceData) → is_tree nodes ≡ true → at n nodes ≡ Some r → level_of n nodes ≡ level_of r.parent nodes + 1
depth_up nodes n r tree found = ap length (stands nodes tree n r found).line ∙ omega arith

pub less_deep_up : (nodes : List ResourceData) (n bound : ℕ) (r : ResourceData) → is_tree nodes ≡ true → at n nodes ≡ Some r → 0 < bound → nat_lt (level_of r.parent nodes) (bound - 1) ≡ nat_lt (level_of n nodes) bound
less_deep_up nodes n bound r tree found some =
    let up : level_of n nodes ≡ level_of r.parent nodes + 1 = depth_up nodes n r tree found in
    elim (cases_Bool (nat_lt (level_of r.parent nodes) (bound - 1))) [
      | inl t ↦
          let less : level_of r.parent nodes < bound - 1 = ltb-true _ _ t in
          t ∙ sym (lt-ltb (level_of n nodes) bound (omega arith))
      | inr f ↦
          let most : bound - 1 ≤ level_of r.parent nodes = ltb-false _ _ f in
          f ∙ sym (le-ltb (level_of n nodes) bound (omega arith))
    ]

-- what isn't there is less deep than anything
pub less_deep_nowhere : (nodes : List ResourceData) (n bound : ℕ) → is_tree nodes ≡ true → at n nodes ≡ None → 0 < bound → nat_lt (level_of n nodes) bound ≡ true
less_deep_nowhere nodes n bound tree none some =
    let nothing : level_of n nodes ≡ 0 = no_depth n nodes tree (has_from_at n nodes none) in
    lt-ltb (level_of n nodes) bound (omega arith)

-- less deep than one below the deepest
pub shallow_is : (n most : ℕ) → nat_lt n (most + 1) ≡ nat_le n most
shallow_is n most = elim (cases_Bool (nat_le n most)) [
  | inl t ↦
      let le : n ≤ most = leb-true n most t in
      lt-ltb n (most + 1) (omega arith) ∙ sym t
  | inr f ↦
      let more : most < n = leb-false n most f in
      le-ltb n (most + 1) (omega arith) ∙ sym f
]
