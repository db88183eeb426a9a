-- What a removal picks; what stands below that goes too.
use Rattle.std.specs.Prelude.{List, Bool, Option}
use Rattle.resource_model.specs.Resource.{ResourceData, has_number}
use Rattle.tree_model.specs.Tree.{at, is_due_under, is_numbered_in, DoAscend}
use Rattle.resource_list.specs.declared.removing.Removal.{Removal}
use Rattle.resource_list.specs.declared.removing.Removal.TheVariants.{Of, Those, Due}

-- a resource with this parent
abbrev pub picks_under : Removal → Option ResourceData → ResourceData → Bool
picks_under (Of n) parent r = has_number n r
picks_under (Those numbers) parent r = is_numbered_in numbers.now r
picks_under (Due moment) parent r = is_due_under parent moment r

-- The removal picks the resource, which stands under its parent in the list.
abbrev pub picks_of : Removal → List ResourceData → ResourceData → Bool
picks_of removal nodes r = picks_under removal (at r.parent nodes) r

-- where it takes several numbers, these ascend
abbrev pub IsInOrder : Removal → Type 0
IsInOrder (Of n) = Unit {0}
IsInOrder (Those numbers) = DoAscend numbers.now
IsInOrder (Due moment) = Unit {0}
