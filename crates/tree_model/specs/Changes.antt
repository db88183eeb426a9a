-- The changes of a tree, one after another: what subscriptions and announced resources are told of
-- (TS-0001, 9.6.8 and 9.6.26).
use Rattle.std.specs.Prelude.{ℕ, List, [], ◌∷◌, map, filter, Option, Some, None}
use Rattle.std.specs.List.{filter_map}
use Rattle.m2m_names.specs.declared.attributes.Attr.{Attr}
use Rattle.resource_model.specs.Resource.{ResourceData}
use Rattle.resource_model.specs.declared.resource.Change.{Change}
use Rattle.resource_model.specs.declared.resource.Change.TheVariants.{Created, Updated, Deleted}
use Rattle.tree_model.specs.Tree.{at, is_at_or_below}

-- What happened to a resource: it is new; it was the first and is the second after an Update that
-- named these attributes; or it was this one, and is gone.
pub data ChangeData : Type 0 where
  created : ResourceData → ChangeData
  updated : ResourceData → ResourceData → List Attr → ChangeData
  deleted : ResourceData → ChangeData

-- the change that a value of the code lends
abbrev pub change_of : Change → ChangeData
change_of (Created r) = created r.now
change_of (Updated before after named) = updated before.now after.now named.now
change_of (Deleted r) = deleted r.now

-- the resources of these numbers, in the order of the numbers
abbrev pub those_of : List ℕ → List ResourceData → List ResourceData
those_of numbers nodes = filter_map (λ n. at n nodes) numbers

-- the changes that come first, if one is given
abbrev pub first_of : Option Change → List ChangeData
first_of (Some c) = change_of c ∷ []
first_of None = []

-- of these resources those at or below the one of the number, where one is given
abbrev pub those_below : Option ℕ → List ResourceData → List ResourceData → List ResourceData
those_below (Some n) nodes left = filter (is_at_or_below n nodes) left
those_below None nodes left = []

-- a creation makes the resource, and then pushes out those of these numbers
abbrev pub creation_changes : List ResourceData → ResourceData → List ℕ → List ChangeData
creation_changes nodes r gone = created r ∷ map deleted (those_of gone nodes)

-- an update of these attributes makes the second of the first, and then pushes out those
abbrev pub update_changes : List ResourceData → ResourceData → ResourceData → List Attr → List ℕ
    → List ChangeData
update_changes nodes r s named gone = updated r s named ∷ map deleted (those_of gone nodes)

-- a deletion takes the resource of the number, and then what stands below it
abbrev pub deletion_changes : List ResourceData → ℕ → List ChangeData
deletion_changes nodes n = map deleted (filter (is_at_or_below n nodes) nodes)

-- a removal takes the resources of these numbers
abbrev pub removal_changes : List ResourceData → List ℕ → List ChangeData
removal_changes nodes gone = map deleted (those_of gone nodes)
