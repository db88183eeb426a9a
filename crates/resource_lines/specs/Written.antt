-- A resource as a JSON list, by all that it keeps.
use Rattle.std.specs.Prelude.{ℕ, pos, List, [], ◌∷◌, map}
use Rattle.m2m_names.specs.Attributes.{attr_short}
use Rattle.m2m_names.specs.Types.{ty_row}
use Rattle.m2m_value.specs.Data.{Data, Entry, elements_of, list, number, object, pairs_of, text}
use Rattle.resource_model.specs.Attributes.{Row}
use Rattle.resource_model.specs.Resource.{ResourceData}
use Rattle.tree_model.specs.Shown.{members_of}

-- a count as a value
abbrev pub count_data : ℕ → Data
count_data n = number (pos n)

-- the attributes as an object, each under its short name
abbrev pub attrs_data : List Row → Data
attrs_data rows = object (pairs_of (members_of rows))

-- three counts as a list
abbrev pub three_counts : ℕ → ℕ → ℕ → Data
three_counts a b c = list (elements_of (count_data a ∷ count_data b ∷ count_data c ∷ []))

-- where it stands: its number, its type and its parent
abbrev pub place_data : ResourceData → Data
place_data r = three_counts r.number (ty_row r.ty).number r.parent

-- its moments
abbrev pub moments_data : ResourceData → Data
moments_data r = three_counts r.ct r.lt r.et

-- its name and its owner
abbrev pub text_items : ResourceData → List Data
text_items r = text r.name ∷ text r.owner ∷ []

-- where it stands, its name, its owner, its moments and its attributes
abbrev pub resource_items : ResourceData → List Data
resource_items r =
    place_data r ∷ text r.name ∷ text r.owner ∷ moments_data r ∷ attrs_data r.attrs ∷ []

abbrev pub resource_data : ResourceData → Data
resource_data r = list (elements_of (resource_items r))
