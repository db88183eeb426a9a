-- What the content of a reply tells of resources other than the one that it shows first.
use Rattle.std.specs.Prelude.{ℕ, Bool, List, [], ◌∷◌, ◌++◌, filter, map, bytes_eq, Option}
use Rattle.std.specs.Prelude.{unwrap_or, is_some, if◌then◌else◌, Some}
use Rattle.std.specs.List.{flat_map, list_any}
use Rattle.std.specs.Option.{option_map_or}
use Rattle.m2m_names.specs.Attributes.{attr_short}
use Rattle.m2m_names.specs.Members.{ch_name, rce_name, uril_name, val_name}
use Rattle.m2m_names.specs.Types.{all_types, ty_member}
use Rattle.m2m_names.specs.declared.attributes.Attr.TheVariants.{Ri}
use Rattle.m2m_value.specs.Data.{Data, null, boolean, number, text, list, object, Elements}
use Rattle.m2m_value.specs.Data.{no_elements, element, Pairs, no_pairs, pair, Entry}
use Rattle.m2m_value.specs.View.{as_list, as_object, text_or_empty}
use Rattle.policy_eval.specs.Rules.{member_at}

-- ---- what a value is made of

-- the elements of a list; any other value stands for itself
abbrev pub listed_or_own : Data → List Data
listed_or_own d = unwrap_or (as_list d) (d ∷ [])

abbrev pub listed_parts : Option Data → List Data
listed_parts d = option_map_or listed_or_own d []

-- what the members of an object have
abbrev pub member_values : Data → List Data
member_values d = option_map_or (map (λ (e : Entry). e.1)) (as_object d) []

-- ---- what is shown

-- the name of a type in JSON, as `m2m:cnt`; no attribute has such a name (TS-0004, 8.2.4)
abbrev pub is_type_name : List ℕ → Bool
is_type_name key = list_any (λ ty. bytes_eq key (ty_member ty)) all_types

-- What stands for resources: an object itself, and what its members with the name of a type have,
-- at every depth; the elements of a list; and any other value itself, though it is none.
abbrev mutual
  pub values_in : Data → List Data
  values_in null = null ∷ []
  values_in (boolean b) = boolean b ∷ []
  values_in (number z) = number z ∷ []
  values_in (text s) = text s ∷ []
  values_in (list es) = values_among es
  values_in (object ps) = object ps ∷ values_under ps

  pub values_among : Elements → List Data
  values_among no_elements = []
  values_among (element d es) = values_in d ++ values_among es

  pub values_under : Pairs → List Data
  values_under no_pairs = []
  values_under (pair key d ps) =
      (if is_type_name key then values_in d else []) ++ values_under ps

-- The value is an object.
abbrev pub is_object : Data → Bool
is_object d = is_some (as_object d)

-- what is shown below the resource that a value shows; a list shows several, and a value of another
-- kind, as an address, shows none
abbrev pub values_below : Data → List Data
values_below null = []
values_below (boolean b) = []
values_below (number z) = []
values_below (text s) = []
values_below (list es) = filter is_object (values_among es)
values_below (object ps) = values_under ps

-- a content without the frame that the reply to a Create may put round the new resource and its
-- address (TS-0004, 7.5.2)
abbrev pub unframed : Data → Data
unframed content = unwrap_or (member_at rce_name content) content

-- the resource ids of those that are shown below the first (TS-0004, 7.5.2)
abbrev pub shown_id : Data → List ℕ
shown_id d = text_or_empty (member_at (attr_short Ri) d)

abbrev pub ids_shown : Data → List (List ℕ)
ids_shown inner = map shown_id (flat_map values_below (member_values inner))

-- The resource ids of those that the content of a reply shows below the first.
abbrev pub ids_below : Data → List (List ℕ)
ids_below content = ids_shown (unframed content)

-- the addresses of the children that it refers to
abbrev pub shown_reference : Data → List ℕ
shown_reference d = text_or_empty (member_at val_name d)

abbrev pub references_shown : Data → List (List ℕ)
references_shown inner =
    map shown_reference
    (flat_map (λ d. listed_parts (member_at ch_name d)) (member_values inner))

-- The addresses that the content of a reply refers to as those of children.
abbrev pub references_in : Data → List (List ℕ)
references_in content = references_shown (unframed content)

-- the addresses that were found (TS-0004, 7.5.2)
abbrev pub addresses_in : Data → List (List ℕ)
addresses_in content =
    map (λ d. text_or_empty (Some d)) (listed_parts (member_at uril_name content))
