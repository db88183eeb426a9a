-- Which resources have copies at another CSE (TS-0001, 9.6.26 and 10.2.18; that an instance stands
-- with its container is the profile's).
use Rattle.std.specs.Prelude.{ℕ, Bool, false, not, ◌&&◌, ◌||◌, List}
use Rattle.std.specs.Option.{option_map_or}
use Rattle.m2m_names.specs.declared.types.Ty.TheVariants.{ContentInstance}
use Rattle.resource_model.specs.Resource.{ResourceData, is_ty}
use Rattle.tree_model.specs.Tree.{at, has}
use Rattle.announce_copy.specs.Peers.{is_one_of, listed_peers}

-- A resource is announced to the CSE.
abbrev pub is_announced_to : List ℕ → ResourceData → Bool
is_announced_to peer r = is_one_of (listed_peers r) peer

-- So is what it stands under.
abbrev pub is_parent_announced_to : List ℕ → List ResourceData → ResourceData → Bool
is_parent_announced_to peer nodes r =
    option_map_or (is_announced_to peer) (at r.parent nodes) false

-- instances, by their numbers
abbrev pub Instances : Type 0
Instances = ℕ → Bool

-- An instance stands with its container's copy, after an operation that left these resources of
-- those: its container is announced, and it is new, or stood so before.
abbrev pub does_stand : List ℕ → Instances → List ResourceData → List ResourceData → ResourceData
    → Bool
does_stand peer stood before after r =
    is_ty r.ty ContentInstance && is_parent_announced_to peer after r
    && (not (has r.number before) || stood r.number)

-- the instances whose container was announced at their creation and ever since: after an operation,
-- those that stand so
abbrev pub stood_after : List ℕ → Instances → List ResourceData → List ResourceData → Instances
stood_after peer stood before after n =
    option_map_or (does_stand peer stood before after) (at n after) false

-- A resource has a copy: it is announced, and an instance stands with its container's copy.
abbrev pub has_copy : List ℕ → Instances → ResourceData → Bool
has_copy peer stood r =
    is_announced_to peer r && (not (is_ty r.ty ContentInstance) || stood r.number)

-- What a change of a resource sends, it sends to the CSE: the resource is announced, and of an
-- instance its container too, as it stands in the list.
abbrev pub is_sent : List ℕ → List ResourceData → ResourceData → Bool
is_sent peer nodes r =
    is_announced_to peer r
    && (not (is_ty r.ty ContentInstance) || is_parent_announced_to peer nodes r)
