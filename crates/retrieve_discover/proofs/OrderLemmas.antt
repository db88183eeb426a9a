-- Lists of resources whose numbers ascend, each above that of its parent.
use Rattle.std.specs.Prelude.{nat_lt}
use Rattle.std.proofs.Common.{◌≡◌, ◌<◌, List, [], ◌∷◌, ◌++◌, Bool, true, ◌&&◌, refl}
use Rattle.std.proofs.lemmas.Bool.{and_parts, and_from, ltb-true, lt-ltb}
use Rattle.resource_model.specs.Resource.{ResourceData}
use Rattle.tree_model.specs.Tree.{are_below, may_stand, is_tree}
use Rattle.tree_model.proofs.GrowthLemmas.{growth, next_above_parent, next_fits, below_parts}
use Rattle.tree_model.proofs.OrderLemmas.{are_above, above_push}

abbrev pub in_order : List ResourceData → Bool
in_order [] = true
in_order (r ∷ later) = nat_lt r.parent r.number && are_above r.number later && in_order later

pub record IsFirst (r : ResourceData) (later : List ResourceData) : Type 0 where
  pub parent : r.parent < r.number
  pub above : are_above r.number later ≡ true
  pub rest : in_order later ≡ true

pub first_of : (r : ResourceData) (later : List ResourceData) → in_order (r ∷ later) ≡ true → IsFirst r later
first_of r later order =
    let two = and_parts (nat_lt r.parent r.number && are_above r.number later) _ order in
    let one = and_parts (nat_lt r.parent r.number) _ two.0 in
    record { parent = ltb-true r.parent r.number one.0; above = one.1; rest = two.1 }

in_order-push : (before : List ResourceData) (r : ResourceData) → in_order before ≡ true → are_below r.number before ≡ true → r.parent < r.number → in_order (before ++ r ∷ []) ≡ true
in_order-push [] r order below above = and_from _ _ (and_from _ _ (lt-ltb r.parent r.number above) refl) refl
in_order-push (s ∷ before) r order below above =
    let first = first_of s before order in
    let low = below_parts r.number s before below in
    let all : are_above s.number (before ++ r ∷ []) ≡ true = above_push s.number before r first.above low.first in
    and_from _ _ (and_from _ _ (lt-ltb s.parent s.number first.parent) all) (in_order-push before r first.rest low.rest above)

-- a tree is such a list
pub in_order-tree : (nodes : List ResourceData) → is_tree nodes ≡ true → in_order nodes ≡ true
in_order-tree = growth may_stand (λ nodes. in_order nodes ≡ true) refl (λ before r grew next holds.
    let fact = next_fits before r next in
    in_order-push before r holds fact.number (next_above_parent before r fact))
