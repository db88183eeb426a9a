-- What the value of a member is read as, where it is of the member's kind (TS-0004, 6.3 and 8.2.2).
use Rattle.std.specs.Prelude.{ℕ, Bool, false, ℤ, pos, List, []}
use Rattle.std.specs.Prelude.{◌∷◌, Option, codes, option_map}
use Rattle.std.specs.Prelude.{option_and_then}
use Rattle.std.specs.List.{list_any}
use Rattle.std.specs.Option.{option_or, option_map_or}
use Rattle.std.specs.Ordering.{int_eq}
use Rattle.m2m_names.specs.Name.{is_filled, is_originator}
pub use Rattle.m2m_names.specs.Ids.{number_spelled}
pub use Rattle.m2m_names.specs.Name.{is_numeral, numeral_limit}
use Rattle.m2m_names.specs.Operations.{op_of_number}
use Rattle.m2m_names.specs.StampReading.{moment_at}
use Rattle.m2m_names.specs.StatusCodes.{rsc_of_number}
use Rattle.m2m_names.specs.declared.codes.Rsc.{Rsc}
use Rattle.m2m_names.specs.declared.operations.Op.{Op}
use Rattle.m2m_names.specs.declared.operations.Op.TheVariants.{Create, Retrieve, Update, Delete}
use Rattle.m2m_names.specs.declared.operations.Op.TheVariants.{Notify}
use Rattle.m2m_value.specs.Data.{Data}
use Rattle.m2m_value.specs.Shapes.{as_count, is_text_of}
use Rattle.m2m_value.specs.View.{as_number, as_text, member_of}
use Rattle.filter_criteria.specs.Values.{members_in}
use Rattle.primitive_json.specs.Bounds.{is_request_id}
use Rattle.primitive_json.specs.declared.request.When.{When}
use Rattle.primitive_json.specs.declared.request.When.TheVariants.{At, Millis}

-- ---- texts

-- the most bytes that the target of a request has
abbrev pub target_limit : ℕ
target_limit = 1024

-- the target of a request: a text of 1 to 1,024 bytes
abbrev pub is_address_text : Data → Bool
is_address_text d = is_text_of (is_filled target_limit) d

-- The value is a text that an originator may be.
abbrev pub is_originator_text : Data → Bool
is_originator_text d = is_text_of is_originator d

-- The value is a text that a request identifier may be.
abbrev pub is_id_text : Data → Bool
is_id_text d = is_text_of is_request_id d

-- ---- numbers

-- one of these numbers
abbrev pub is_among : List ℤ → ℤ → Bool
is_among numbers z = list_any (λ n. int_eq n z) numbers

-- The value is one of these numbers.
abbrev pub is_number_among : List ℤ → Data → Bool
is_number_among numbers d = option_map_or (is_among numbers) (as_number d) false

-- the operation that a number stands for: 1 to 5
abbrev pub read_operation : Data → Option Op
read_operation d = option_and_then op_of_number (as_number d)

-- the numbers of result contents (TS-0004, 6.3.4.2.7): nothing; the attributes; the address; both
abbrev pub nothing_wanted : ℤ
nothing_wanted = pos 0

abbrev pub attributes_wanted : ℤ
attributes_wanted = pos 1

abbrev pub address_wanted : ℤ
address_wanted = pos 2

abbrev pub both_wanted : ℤ
both_wanted = pos 3

-- the attributes and the descendants; the attributes and references to the children; these alone
abbrev pub descendants_wanted : ℤ
descendants_wanted = pos 4

abbrev pub children_wanted : ℤ
children_wanted = pos 5

abbrev pub children_alone_wanted : ℤ
children_alone_wanted = pos 6

-- what the result content of an operation may be (the choice is the profile's)
abbrev pub result_contents : Op → List ℤ
result_contents Create = nothing_wanted ∷ attributes_wanted ∷ address_wanted ∷ both_wanted ∷ []
result_contents Retrieve =
    attributes_wanted ∷ descendants_wanted ∷ children_wanted ∷ children_alone_wanted ∷ []
result_contents Update = nothing_wanted ∷ attributes_wanted ∷ []
result_contents Delete = nothing_wanted ∷ []
result_contents Notify = []

-- the numbers of the forms of addresses: structured, by names, or unstructured, by resource ids
-- (TS-0004, 6.3.4.2.8)
abbrev pub structured_form : ℤ
structured_form = pos 1

abbrev pub unstructured_form : ℤ
unstructured_form = pos 2

-- The numbers of both forms of addresses (TS-0004, 6.3.4.2.8).
abbrev pub address_forms : List ℤ
address_forms = structured_form ∷ unstructured_form ∷ []

-- the number of the response type blockingRequest (TS-0004, 6.3.4.2.6)
abbrev pub blocking_request : ℤ
blocking_request = pos 3

-- a number, or an object that has one at `rtv` (TS-0004, 6.3.5.30)
abbrev pub read_response_type : Data → Option ℤ
read_response_type d =
    option_or (as_number d) (option_and_then as_number (member_of (codes "rtv") (members_in d)))

-- ---- expiry

-- milliseconds by digits, else the moment of a timestamp
abbrev pub expiry_spelled : List ℕ → Option When
expiry_spelled s =
    option_or (option_map Millis (number_spelled s)) (option_map At (moment_at s))

-- milliseconds by a number, else what a text spells (TS-0004, 6.3.3)
abbrev pub read_expiry : Data → Option When
read_expiry d =
    option_or (option_map Millis (as_count d)) (option_and_then expiry_spelled (as_text d))

-- ---- of a reply

-- the status code of a number
abbrev pub read_status : Data → Option Rsc
read_status d = option_and_then rsc_of_number (as_count d)
