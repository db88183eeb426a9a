-- What a discovery finds (TS-0001, 10.2.6; TS-0004, 7.5.2).
use Rattle.std.specs.Prelude.{ℕ, min, Bool, ◌&&◌, List, [], ◌∷◌, map, filter, take, Option}
use Rattle.std.specs.Prelude.{unwrap_or, if◌then◌else◌}
use Rattle.std.specs.Option.{option_map_or}
use Rattle.m2m_names.specs.Members.{uril_name}
use Rattle.m2m_value.specs.Data.{Data, list, object, text, elements_of, pairs_of}
use Rattle.filter_criteria.specs.declared.filter.FilterParts.{FilterParts}
use Rattle.resource_model.specs.Home.{HomeData}
use Rattle.resource_model.specs.Resource.{ResourceData, id_of}
use Rattle.policy_eval.specs.Rights.{grants, discovery_bit}
use Rattle.addressing.specs.Names.{structured_of}
use Rattle.retrieve_discover.specs.Conditions.{meets}
use Rattle.retrieve_discover.specs.Descendants.{below}

-- the most addresses, or references, that a reply lists (the number is the profile's)
abbrev pub most_listed : ℕ
most_listed = 4_096

-- the most that a filter asks for
abbrev pub most_of : FilterParts → ℕ
most_of f = min (unwrap_or f.lim most_listed) most_listed

-- the resource is found: the originator has DISCOVERY on it, and it meets all conditions
abbrev pub is_found : HomeData → List ResourceData → List ℕ → FilterParts → ResourceData → Bool
is_found home nodes originator f r =
    grants home nodes originator discovery_bit r.number && meets nodes f r

-- The descendants of a resource that are found, in their order.
abbrev pub all_found : HomeData → List ResourceData → List ℕ → FilterParts → ℕ →
    List ResourceData
all_found home nodes originator f n = filter (is_found home nodes originator f) (below n nodes)

-- the first of them, as many as are given
abbrev pub found : HomeData → List ResourceData → List ℕ → FilterParts → ℕ → List ResourceData
found home nodes originator f n = take (most_of f) (all_found home nodes originator f n)

-- ---- their addresses

-- the address of a resource: its resource id, or its structured address (TS-0001, 9.3.1)
abbrev pub address_in : Bool → List ResourceData → ResourceData → List ℕ
address_in by_id nodes r = if by_id then id_of r else structured_of r.number nodes

-- The address of a resource as a JSON text.
abbrev pub address : Bool → List ResourceData → ResourceData → Data
address by_id nodes r = text (address_in by_id nodes r)

-- a list of addresses (TS-0004, 8.4)
abbrev pub address_list : List Data → Data
address_list addresses = object (pairs_of ((uril_name, list (elements_of addresses)) ∷ []))

-- what is found by a filter, by its addresses; without a filter nothing is
abbrev pub found_addresses : HomeData → List ResourceData → List ℕ → Bool → Option FilterParts →
    ℕ → List Data
found_addresses home nodes originator by_id filter n =
    option_map_or (λ f. map (address by_id nodes) (found home nodes originator f n)) filter []
