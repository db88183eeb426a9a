-- The resource that a JSON list is.
use Rattle.std.specs.Prelude.{◌≡◌, ℕ, nat_le, Bool, List, [], ◌∷◌, Option, Some, None, option_map}
use Rattle.std.specs.Prelude.{option_and_then, unwrap_or}
use Rattle.m2m_names.specs.Attributes.{attr_of_short}
use Rattle.m2m_names.specs.Stamps.{last_moment}
use Rattle.m2m_names.specs.Types.{ty_of_number}
use Rattle.m2m_names.specs.declared.types.Ty.{Ty}
use Rattle.m2m_value.specs.Data.{Data, Entry}
use Rattle.m2m_value.specs.Shapes.{as_count}
use Rattle.m2m_value.specs.View.{as_list, as_object, as_text}
use Rattle.filter_criteria.specs.Values.{where_it, read_type_number}
use Rattle.resource_model.specs.Attributes.{Row, with_value}
use Rattle.resource_model.specs.Resource.{ResourceData}
use Rattle.resource_model.specs.declared.resource.Moments.{Moments}
use Rattle.resource_lines.specs.declared.reading.Place.{Place}

-- a moment that has a timestamp
abbrev pub is_moment : ℕ → Bool
is_moment moment = nat_le moment last_moment

abbrev pub moment_in : Data → Option ℕ
moment_in d = where_it is_moment (as_count d)

-- the values of a list; any other value has none
abbrev pub values_in : Data → List Data
values_in d = unwrap_or (as_list d) []

-- three moments
abbrev pub moments_by : List Data → Option Moments
moments_by (ct ∷ lt ∷ et ∷ []) =
    option_and_then (λ c. option_and_then (λ l. option_map (λ e. record { ct = c; lt = l; et = e })
    (moment_in et)) (moment_in lt)) (moment_in ct)
moments_by _ = None

abbrev pub moments_in : Data → Option Moments
moments_in d = moments_by (values_in d)

-- the type of a number
abbrev pub ty_in : Data → Option Ty
ty_in d = option_and_then ty_of_number (read_type_number d)

-- a number, a type and a parent
abbrev pub place_by : List Data → Option Place
place_by (own ∷ ty ∷ parent ∷ []) =
    option_and_then (λ n. option_and_then (λ t. option_map (λ p.
    record { number = n; ty = t; parent = p }) (as_count parent)) (ty_in ty)) (as_count own)
place_by _ = None

abbrev pub place_in : Data → Option Place
place_in d = place_by (values_in d)

-- the rows, and then those of the members, each in its place in the order of names; none where a
-- member has the name of no attribute
abbrev pub rows_with : List Row → List Entry → Option (List Row)
rows_with rows [] = Some rows
rows_with rows (e ∷ members) =
    option_and_then (λ a. rows_with (with_value a e.1 rows) members) (attr_of_short e.0)

abbrev pub rows_in : Data → Option (List Row)
rows_in d = option_and_then (rows_with []) (as_object d)

-- its name and its owner
abbrev pub texts_by : Data → Data → Option (List ℕ × List ℕ)
texts_by name owner =
    option_and_then (λ n. option_map (λ o. (n, o)) (as_text owner)) (as_text name)

-- a resource by its parts
abbrev pub resource_of : Place → List ℕ × List ℕ → Moments → List Row → ResourceData
resource_of place texts moments rows = record {
  number = place.number;
  ty = place.ty;
  name = texts.0;
  parent = place.parent;
  owner = texts.1;
  ct = moments.ct;
  lt = moments.lt;
  et = moments.et;
  attrs = rows;
}

-- parts as a resource, where each is there
abbrev pub joined : Option Place → Option (List ℕ × List ℕ) → Option Moments → Option (List Row)
    → Option ResourceData
joined place texts moments rows =
    option_and_then (λ p. option_and_then (λ t. option_and_then (λ m.
    option_map (resource_of p t m) rows) moments) texts) place

-- five values as a resource
abbrev pub resource_by : List Data → Option ResourceData
resource_by (place ∷ name ∷ owner ∷ moments ∷ attrs ∷ []) =
    joined (place_in place) (texts_by name owner) (moments_in moments) (rows_in attrs)
resource_by _ = None

-- the resource that a value is
abbrev pub resource_in : Data → Option ResourceData
resource_in d = resource_by (values_in d)
