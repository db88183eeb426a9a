-- What values are: texts, counts, lists and objects of such.
use Rattle.std.specs.Prelude.{◌-◌, ◌&&◌, ℕ, ℤ, pos, negsuc, nat_lt, Bool, true, false, List}
use Rattle.std.specs.Prelude.{length}
use Rattle.std.specs.Prelude.{Option, Some, None, option_and_then}
use Rattle.std.specs.List.{list_all}
use Rattle.std.specs.Option.{option_map_or}
use Rattle.m2m_names.specs.Ids.{count_bound}
use Rattle.m2m_names.specs.Name.{is_filled, is_one_of}
use Rattle.m2m_value.specs.Data.{Data, Entry}
use Rattle.m2m_value.specs.View.{as_list, as_number, as_object, as_text, member_of}

-- the count of a whole number from 0 on
abbrev pub count_of : ℤ → Option ℕ
count_of (pos n) = Some n
count_of (negsuc n) = None

-- the largest count that a value has
abbrev pub largest_count : ℕ
largest_count = count_bound - 1

-- the value as a count
abbrev pub as_count : Data → Option ℕ
as_count d = option_and_then count_of (as_number d)

-- a text that is such a one
abbrev pub is_text_of : (List ℕ → Bool) → Data → Bool
is_text_of fits d = option_map_or fits (as_text d) false

-- a list of such values
abbrev pub is_list_of : (Data → Bool) → Data → Bool
is_list_of fits d = option_map_or (list_all fits) (as_list d) false

-- a list of such values that has at least one
abbrev pub is_some_of : (Data → Bool) → Data → Bool
is_some_of fits d =
    option_map_or (λ ds. nat_lt 0 (length ds) && list_all fits ds) (as_list d) false

-- a whole number from 0 on that is such a one
abbrev pub is_count_of : (ℕ → Bool) → Data → Bool
is_count_of fits d = option_map_or fits (as_count d) false

-- an object with such members
abbrev pub is_object_of : (List Entry → Bool) → Data → Bool
is_object_of fits d = option_map_or fits (as_object d) false

-- The keys of the object are among these.
abbrev pub are_keys_among : List (List ℕ) → List Entry → Bool
are_keys_among keys es = list_all (λ e. is_one_of keys e.0) es

-- The object has a member of this key, and its value passes the test.
abbrev pub has_member : List ℕ → (Data → Bool) → List Entry → Bool
has_member key fits es = option_map_or fits (member_of key es) false

-- The object has no member of this key, or its value passes the test.
abbrev pub may_have_member : List ℕ → (Data → Bool) → List Entry → Bool
may_have_member key fits es = option_map_or fits (member_of key es) true

-- the most bytes that a label has (the profile's)
abbrev pub label_limit : ℕ
label_limit = 256

-- the text of a label: 1 to 256 bytes
abbrev pub is_label_text : List ℕ → Bool
is_label_text s = is_filled label_limit s

-- The value is the text of a label.
abbrev pub is_label : Data → Bool
is_label d = is_text_of is_label_text d
