-- Laws of rights and of what an originator sees, over every list.
use Rattle.std.specs.Prelude.{◌≡◌, ℕ, Bool, IsTrue, List}
use Rattle.resource_model.specs.Home.{HomeData}
use Rattle.resource_model.specs.Resource.{ResourceData}
use Rattle.tree_model.specs.Tree.{is_tree, is_well_formed, without}
use Rattle.equal_sights.specs.Seen.{seen_list}
use Rattle.equal_sights.specs.Shape.{shape_list}

-- what may be done after a removal, of any resources with what stands below them, could be done
-- before it
abbrev pub IsNeverGained : (List ResourceData → Bool) → Type 0
IsNeverGained is_allowed =
    (picks : ResourceData → Bool) (nodes : List ResourceData) → IsTrue (is_tree nodes) →
    IsTrue (is_allowed (without picks nodes)) → IsTrue (is_allowed nodes)

-- What an originator sees of a well-formed list has the shape of that list.
abbrev pub SightHasShape : Type 0
SightHasShape =
    (home : HomeData) (nodes : List ResourceData) (originator : List ℕ)
    → IsTrue (is_well_formed nodes)
    → shape_list home (seen_list home nodes originator) originator
    ≡ shape_list home nodes originator
