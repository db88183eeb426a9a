-- Whether a resource is one of a tree, or stands below it, found by going up.
use Rattle.std.proofs.Common.{◌≡◌, ◌≢◌, ℕ, ◌<◌, List, Bool, true, false, ◌==◌, ◌||◌, Some, None, sym, ap, ◌∙◌}
use Rattle.std.proofs.lemmas.Bool.{eq-eqb, ne_eqb}
use Rattle.std.specs.List.{list_any}
use Rattle.resource_model.specs.Resource.{ResourceData, has_number}
use Rattle.tree_model.specs.Tree.{at, is_tree, line_of}
use Rattle.tree_model.proofs.GrowthLemmas.{stands}
use Rattle.tree_model.proofs.TreeLemmas.{has_from_at}
use Rattle.tree_model.proofs.ChangeLemmas.{line_none}

module _ (nodes : List ResourceData) (tree : is_tree nodes ≡ true) (target n : ℕ) where
  up : (r : ResourceData) → at n nodes ≡ Some r → list_any (has_number target) (line_of n nodes) ≡ ((r.number == target) || list_any (has_number target) (line_of r.parent nodes))
  up r found = ap (list_any (has_number target)) (stands nodes tree n r found).line

  -- a parent has a lower number
  pub parent_below : (r : ResourceData) → at n nodes ≡ Some r → r.parent < n
  parent_below r found = (stands nodes tree n r found).above

  pub it_is : (r : ResourceData) → at n nodes ≡ Some r → r.number ≡ target → true ≡ list_any (has_number target) (line_of n nodes)
  it_is r found is =
      sym (up r found ∙ ap (λ (b : Bool). b || list_any (has_number target) (line_of r.parent nodes)) (eq-eqb r.number target is))

  pub its_parent_is : (r : ResourceData) (b : Bool) → at n nodes ≡ Some r → r.number ≢ target → b ≡ list_any (has_number target) (line_of r.parent nodes) → b ≡ list_any (has_number target) (line_of n nodes)
  its_parent_is r b found apart is =
      is ∙ sym (up r found ∙ ap (λ (x : Bool). x || list_any (has_number target) (line_of r.parent nodes)) (ne_eqb r.number target apart))

  pub none_is : at n nodes ≡ None → false ≡ list_any (has_number target) (line_of n nodes)
  none_is none = sym (ap (list_any (has_number target)) (line_none n nodes tree (has_from_at n nodes none)))
