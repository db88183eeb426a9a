-- What an address names (TS-0001, 9.3.1 and 9.6), on the list of resources.
use Rattle.std.specs.Prelude.{ℕ, ◌+◌, Bool, true, false, ◌&&◌, List, [], ◌∷◌, bytes_eq}
use Rattle.std.specs.Prelude.{if◌then◌else◌, map, reverse, Option, Some, None, option_and_then}
use Rattle.std.specs.Prelude.{is_some, option_map}
use Rattle.std.specs.Option.{option_or}
use Rattle.m2m_names.specs.Name.{base_mark, fan_name, newest_name, oldest_name, poll_name}
use Rattle.m2m_names.specs.declared.types.Ty.{Ty}
use Rattle.m2m_names.specs.declared.types.Ty.TheVariants.{Group, PollingChannel}
use Rattle.resource_model.specs.Resource.{ResourceData}
use Rattle.tree_model.specs.Tree.{ae_of, child_of, children_of, first_number, instance_of}
use Rattle.tree_model.specs.Tree.{line_of, resource_number, resource_of_id, typed_at}
use Rattle.addressing.specs.Addresses.{joined}
use Rattle.addressing.specs.declared.addr.Addr.{Addr}
use Rattle.addressing.specs.declared.addr.Addr.TheVariants.{Local, Foreign, OtherProvider}
use Rattle.addressing.specs.declared.spot.Spot.{Spot}
use Rattle.addressing.specs.declared.spot.Spot.TheVariants.{Resource, Fan, Poll}

-- the resource of the number is of the type
abbrev pub is_at : Ty → ℕ → List ResourceData → Bool
is_at ty n nodes = is_some (typed_at ty n nodes)

-- the resource that an address names, where it names none of the virtual ones
abbrev pub spot_resource : Spot → Option ℕ
spot_resource (Resource n) = Some n
spot_resource (Fan group rest) = None
spot_resource (Poll channel) = None

-- ---- the first segment

-- the CSEBase, which stands under nothing
abbrev pub base_of : List ResourceData → Option ℕ
base_of nodes = first_number (children_of 0 nodes)

-- `-` is the CSEBase, and so is its name
abbrev pub base_named : List ℕ → List ResourceData → Option ℕ
base_named segment nodes =
    if bytes_eq segment base_mark then base_of nodes else child_of 0 segment nodes

-- the resource of a resource id
abbrev pub id_named : List ℕ → List ResourceData → Option ℕ
id_named segment nodes = resource_number (resource_of_id segment nodes)

-- the CSEBase, else the resource of that id, else the application entity of that AE-ID
abbrev pub first_named : List ℕ → List ResourceData → Option ℕ
first_named segment nodes =
    option_or (base_named segment nodes)
    (option_or (id_named segment nodes) (ae_of segment nodes))

-- ---- later segments

-- `la` and `ol` name the newest and the oldest instance, any other name the child
abbrev pub next_named : ℕ → List ℕ → List ResourceData → Option ℕ
next_named n name nodes =
    if bytes_eq name newest_name then instance_of true n nodes else
    if bytes_eq name oldest_name then instance_of false n nodes else child_of n name nodes

-- `fopt` behind a group, and `pcu` behind a polling channel
abbrev pub is_fan : ℕ → List ℕ → List ResourceData → Bool
is_fan n name nodes = bytes_eq name fan_name && is_at Group n nodes

-- The name is `pcu`, and the resource a polling channel: together they name its poll point
-- (TS-0001, 9.6.21).
abbrev pub is_poll : ℕ → List ℕ → List ResourceData → Bool
is_poll n name nodes = bytes_eq name poll_name && is_at PollingChannel n nodes

-- the poll point, behind which nothing stands
abbrev pub poll_point : ℕ → List (List ℕ) → Option Spot
poll_point n [] = Some (Poll n)
poll_point n (name ∷ names) = None

-- the fan-out point, and the place at which the rest begins
abbrev pub fan_point : ℕ → ℕ → Spot
fan_point group rest = Fan group rest

-- what names say from a resource on, the first of which has this place in its address: the
-- resource, where there is none; the fan-out point, with what follows it as the rest; the poll
-- point; else what the others say from the one that the first names
abbrev pub spot_from : ℕ → ℕ → List (List ℕ) → List ResourceData → Option Spot
spot_from place n [] nodes = Some (Resource n)
spot_from place n (name ∷ names) nodes =
    if is_fan n name nodes then Some (fan_point n (place + 1)) else
    if is_poll n name nodes then poll_point n names else
    option_and_then (λ m. spot_from (place + 1) m names nodes) (next_named n name nodes)

-- what segments name: the CSEBase, where there is none
abbrev pub spot_of : List (List ℕ) → List ResourceData → Option Spot
spot_of [] nodes = option_map (λ n. Resource n) (base_of nodes)
spot_of (segment ∷ names) nodes =
    option_and_then (λ n. spot_from 1 n names nodes) (first_named segment nodes)

-- ---- of an address

-- The address names something on this CSE: it is CSE-relative, or begins with the own CSE-ID or
-- with the own provider and CSE-ID (TS-0001, 7.2).
abbrev pub IsLocal : Addr → Type 0
IsLocal (Local segments) = Unit {0}
IsLocal (Foreign text) = ⊥
IsLocal OtherProvider = ⊥

-- The segments of an address on this CSE; an address elsewhere has none here (TS-0001, 7.2).
abbrev pub segments_of : Addr → List (List ℕ)
segments_of (Local segments) = segments
segments_of (Foreign text) = []
segments_of OtherProvider = []

-- ---- structured addresses

-- the names from the CSEBase down to a resource, with a slash between them
abbrev pub names_to : ℕ → List ResourceData → List (List ℕ)
names_to n nodes = reverse (map (λ (r : ResourceData). r.name) (line_of n nodes))

-- The structured address of a resource, as a text (TS-0001, 9.3.1).
abbrev pub structured_of : ℕ → List ResourceData → List ℕ
structured_of n nodes = joined (names_to n nodes)
