-- Which resources stand below one.
use Rattle.std.specs.Prelude.{ℕ, ◌-◌, ◌==◌, Bool, ◌&&◌, List, [], ◌∷◌, ◌++◌, length}
use Rattle.std.specs.Prelude.{if◌then◌else◌}
use Rattle.resource_model.specs.Resource.{ResourceData, has_number}
use Rattle.tree_model.specs.Tree.{is_under, line_of}

-- The descendants of a resource, each child before what stands below it, in order of creation: a
-- child of it, then what stands below that child, which was created later, then the other
-- descendants (TS-0001, 9.6; the order is the profile's).
abbrev pub below : ℕ → List ResourceData → List ResourceData
below n [] = []
below n (r ∷ later) =
    if is_under n r then r ∷ (below r.number later ++ below n later) else below n later

-- a line up to a resource, that one left out
abbrev pub line_up_to : ℕ → List ResourceData → List ResourceData
line_up_to n [] = []
line_up_to n (r ∷ line) = if has_number n r then [] else r ∷ line_up_to n line

-- a descendant, and all that stand between it and the resource
abbrev pub line_below : ℕ → List ResourceData → ResourceData → List ResourceData
line_below n nodes r = line_up_to n (line_of r.number nodes)

-- Resources with what stands below each: the first, what stands below it, and those after it.
pub data Forest : Type 0 where
  bare : Forest
  rooted : ResourceData → Forest → Forest → Forest

-- The descendants of a resource that are reached by going down through such resources alone, each
-- with those below it.
abbrev pub forest_of : (ResourceData → Bool) → ℕ → List ResourceData → Forest
forest_of goes n [] = bare
forest_of goes n (r ∷ later) =
    if is_under n r && goes r then rooted r (forest_of goes r.number later) (forest_of goes n later)
    else forest_of goes n later

-- the resources of a forest, each before what stands below it
abbrev pub preorder : Forest → List ResourceData
preorder bare = []
preorder (rooted r kids more) = r ∷ (preorder kids ++ preorder more)

-- How many resources a forest has.
abbrev pub forest_size : Forest → ℕ
forest_size forest = length (preorder forest)

-- the first of a forest, as many as this
abbrev pub cut_forest : Forest → ℕ → Forest
cut_forest bare m = bare
cut_forest (rooted r kids more) m =
    if m == 0 then bare
    else rooted r (cut_forest kids (m - 1)) (cut_forest more (m - 1 - forest_size kids))

-- a resource with what is reached below it, where it is reached itself
abbrev pub reached_forest : (ResourceData → Bool) → List ResourceData → ResourceData → Forest
reached_forest goes nodes r = if goes r then rooted r (forest_of goes r.number nodes) bare else bare
