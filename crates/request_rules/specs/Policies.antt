-- The policies that a content names, by addresses (TS-0001, 9.3.1, 9.6.1.3.2 and 9.6.13).
use Rattle.std.specs.Prelude.{ℕ, ◌==◌, Bool, ◌&&◌, List, [], ◌∷◌, length, map, is_some, Option}
use Rattle.std.specs.Prelude.{option_and_then, if◌then◌else◌}
use Rattle.std.specs.List.{filter_map, list_all}
use Rattle.m2m_names.specs.Attributes.{attr_short}
use Rattle.m2m_names.specs.declared.attributes.Attr.{Attr}
use Rattle.m2m_names.specs.declared.attributes.Attr.TheVariants.{Acpi, Macp}
use Rattle.m2m_value.specs.Data.{Data, Entry, text, list, elements_of}
use Rattle.m2m_value.specs.View.{as_text, member_of}
use Rattle.resource_model.specs.Attributes.{Row}
use Rattle.resource_model.specs.Resource.{ResourceData, id_of}
use Rattle.addressing.specs.Laws.{spot_named}
use Rattle.addressing.specs.Names.{spot_resource}
use Rattle.addressing.specs.declared.spot.Spot.{Spot}
use Rattle.policy_eval.specs.Rules.{listed_in, policy_at}
use Rattle.entity_model.specs.Entity.{EntityData}

-- the policy that an address names
abbrev pub policy_on : List ResourceData → Spot → Option ResourceData
policy_on nodes spot = option_and_then (policy_at nodes) (spot_resource spot)

-- the live policy that a text addresses
abbrev pub policy_addressed : EntityData → List ℕ → Option ResourceData
policy_addressed e address =
    option_and_then (policy_on e.nodes) (spot_named e.home address e.nodes)

-- The live policy that a value addresses as a text.
abbrev pub policy_meant : EntityData → Data → Option ResourceData
policy_meant e d = option_and_then (policy_addressed e) (as_text d)

-- the values that an attribute lists in a content
abbrev pub listed : Attr → List Entry → List Data
listed attr es = listed_in (member_of (attr_short attr) es)

-- all of them address live policies
abbrev pub are_policies : EntityData → Attr → List Entry → Bool
are_policies e attr es = list_all (λ d. is_some (policy_meant e d)) (listed attr es)

-- whatever policies the content names are live
abbrev pub links_live : EntityData → List Entry → Bool
links_live e es = are_policies e Acpi es && are_policies e Macp es

-- the resource ids of the policies that are named, in order and with repeats
abbrev pub policy_ids : EntityData → List Data → List Data
policy_ids e ds = map (λ p. text (id_of p)) (filter_map (policy_meant e) ds)

-- an attribute that names policies keeps their resource ids; where it names none, it isn't kept
abbrev pub link_row : EntityData → List Entry → Attr → List Row
link_row e es attr =
    if length (listed attr es) == 0 then []
    else (attr, list (elements_of (policy_ids e (listed attr es)))) ∷ []
