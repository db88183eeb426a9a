-- What a removal leaves alone.
use Rattle.std.specs.Prelude.{◌==◌}
use Rattle.std.proofs.Common.{◌≡◌, List, [], ◌∷◌, ◌++◌, Bool, true, false, cond, ◌||◌, Option, Some, None, inl, inr, refl, sym, ap, ◌∙◌}
use Rattle.std.proofs.lemmas.Bool.{and_parts, or_cases, or_left, or_right, or_parts, not-true, not_from_false, eq-eqb}
use Rattle.std.specs.List.{list_any}
use Rattle.resource_model.specs.Resource.{ResourceData}
use Rattle.tree_model.specs.Tree.{at, has, line_of, stays, staying, without, is_spared, due, due_under, may_stand, grows, is_tree}
use Rattle.tree_model.proofs.TreeLemmas.{stays_from}
use Rattle.tree_model.proofs.GrowthLemmas.{next_fits, root_parts, stands, at-without}

-- where nothing is picked, all stays
staying_all_of : (p : ResourceData → Bool) (before nodes : List ResourceData) → grows may_stand before nodes ≡ true → list_any p nodes ≡ false → staying p before nodes ≡ nodes
staying_all_of p before [] grew none = refl
staying_all_of p before (r ∷ nodes) grew none =
    let parts = and_parts (may_stand before r) _ grew in
    let free = or_parts (p r) (list_any p nodes) none in
    let parent : ((r.parent == 0) || has r.parent before) ≡ true = elim (or_cases (has r.parent before) _ (next_fits before r parts.0).parent) [
      | inl there ↦ or_right _ _ there
      | inr root ↦ or_left _ _ (eq-eqb r.parent 0 (root_parts before r root).parent)
    ] in
    let stay : stays p before r ≡ true = stays_from p before r (record { unpicked = free.0; parent = parent }) in
    rw stay (ap (λ rest. r ∷ rest) (staying_all_of p (before ++ r ∷ []) nodes parts.1 free.1))

pub without_none : (p : ResourceData → Bool) (nodes : List ResourceData) → is_tree nodes ≡ true → list_any p nodes ≡ false → without p nodes ≡ nodes
without_none p nodes tree none = staying_all_of p [] nodes tree none

-- what is spared has a parent that is spared
pub spared_parent : (p : ResourceData → Bool) (nodes : List ResourceData) (r : ResourceData) → is_tree nodes ≡ true → at r.number nodes ≡ Some r → is_spared p nodes r.number ≡ true → is_spared p nodes r.parent ≡ true
spared_parent p nodes r tree found spared =
    let line = (stands nodes tree r.number r found).line in
    let none : list_any p (r ∷ line_of r.parent nodes) ≡ false = sym (ap (list_any p) line) ∙ not-true _ spared in
    not_from_false _ (or_parts (p r) _ none).1

-- the parent of what is spared is read as before, and so is the moment at which it is due
pub at-without_parent : (p : ResourceData → Bool) (nodes : List ResourceData) (r : ResourceData) → is_tree nodes ≡ true → at r.number nodes ≡ Some r → is_spared p nodes r.number ≡ true → at r.parent (without p nodes) ≡ at r.parent nodes
at-without_parent p nodes r tree found spared =
    at-without p r.parent nodes tree ∙ ap (λ b. cond b (at r.parent nodes) None) (spared_parent p nodes r tree found spared)

pub due-without : (p : ResourceData → Bool) (nodes : List ResourceData) (r : ResourceData) → is_tree nodes ≡ true → at r.number nodes ≡ Some r → is_spared p nodes r.number ≡ true → due (without p nodes) r ≡ due nodes r
due-without p nodes r tree found spared = ap (λ (o : Option ResourceData). due_under o r) (at-without_parent p nodes r tree found spared)
