-- Looking at a value, and into an object.
use Rattle.std.specs.Prelude.{◌≡◌, ℕ, ◌<◌, ◌≤◌, ℤ, List, [], ◌∷◌, length, slice_index_or, Bool}
use Rattle.std.specs.Prelude.{bytes_eq, Option, Some, None, option_and_then, unwrap_or}
use Rattle.std.specs.Cmp.Lexicographic.{slice_cmp}
use Rattle.std.specs.Ordering.{nat_cmp}
use Rattle.std.specs.declared.cmp.Ordering.TheVariants.{Less, Equal, Greater}
use Rattle.std.specs.Map.{lookup}
use Rattle.m2m_value.specs.Data.{Data, null, boolean, number, text, list, object, Elements}
use Rattle.m2m_value.specs.Data.{no_elements, element, Pairs, no_pairs, pair, Entry}

-- the elements of a list, as a list of them
abbrev pub elements : Elements → List Data
elements no_elements = []
elements (element d es) = d ∷ elements es

-- the members of an object, as a list of them
abbrev pub entries : Pairs → List Entry
entries no_pairs = []
entries (pair k d ps) = (k, d) ∷ entries ps

-- what the value is, where it is of that kind
abbrev pub as_boolean : Data → Option Bool
as_boolean null = None
as_boolean (boolean b) = Some b
as_boolean (number z) = None
as_boolean (text s) = None
as_boolean (list es) = None
as_boolean (object ps) = None

abbrev pub as_number : Data → Option ℤ
as_number null = None
as_number (boolean b) = None
as_number (number z) = Some z
as_number (text s) = None
as_number (list es) = None
as_number (object ps) = None

abbrev pub as_text : Data → Option (List ℕ)
as_text null = None
as_text (boolean b) = None
as_text (number z) = None
as_text (text s) = Some s
as_text (list es) = None
as_text (object ps) = None

abbrev pub as_list : Data → Option (List Data)
as_list null = None
as_list (boolean b) = None
as_list (number z) = None
as_list (text s) = None
as_list (list es) = Some (elements es)
as_list (object ps) = None

abbrev pub as_object : Data → Option (List Entry)
as_object null = None
as_object (boolean b) = None
as_object (number z) = None
as_object (text s) = None
as_object (list es) = None
as_object (object ps) = Some (entries ps)

-- the text of a value; of one that is no text, and where there is none, the empty text
abbrev pub text_or_empty : Option Data → List ℕ
text_or_empty d = unwrap_or (option_and_then as_text d) []

-- the value at the key
abbrev pub member_of : List ℕ → List Entry → Option Data
member_of key es = lookup (bytes_eq key) es

-- the only member, where there is exactly one
abbrev pub only_member : List Entry → Option Entry
only_member [] = None
only_member (e ∷ []) = Some e
only_member (e ∷ f ∷ es) = None

-- the entry at a place has the key
abbrev pub IsPlaceOf : List ℕ → List Entry → ℕ → Type 0
IsPlaceOf key es place = (place < length es)
    × ((d : Entry) → slice_cmp nat_cmp (slice_index_or es place d).0 key ≡ Equal)

-- the key would go at a place: smaller keys stand before it, and greater keys from it on
pub record IsGapFor (key : List ℕ) (es : List Entry) (place : ℕ) : Type 0 where
  pub within : place ≤ length es
  pub below : (k : ℕ) (d : Entry) → k < place →
      slice_cmp nat_cmp (slice_index_or es k d).0 key ≡ Less
  pub above : (k : ℕ) (d : Entry) → place ≤ k → k < length es →
      slice_cmp nat_cmp (slice_index_or es k d).0 key ≡ Greater
