-- The query of a request (TS-0009, 6.2.2.3): its pairs, and what they say.
use Rattle.std.specs.Prelude.{ℕ, ◌==◌, Bool, ◌&&◌, ℤ, pos, List, [], ◌∷◌, ◌++◌, map}
use Rattle.std.specs.Prelude.{bytes_eq, codes, Option, Some, None, option_map, option_and_then}
use Rattle.std.specs.Prelude.{unwrap_or, is_some, if◌then◌else◌, Result, Ok, Err}
use Rattle.std.specs.List.{list_all, filter_map, slice_split}
use Rattle.std.specs.Option.{option_map_or}
use Rattle.std.specs.Str.{is_utf8}
use Rattle.std.specs.Str.Lossy.{utf8_lossy}
use Rattle.form_urlencoded.specs.Form as form
use Rattle.m2m_names.specs.Name.{is_one_of}
use Rattle.m2m_names.specs.StampReading.{moment_at}
use Rattle.m2m_names.specs.Types.{is_type_number}
use Rattle.m2m_names.specs.declared.operations.Op.{Op}
use Rattle.m2m_value.specs.Shapes.{is_label_text}
use Rattle.filter_criteria.specs.Conditions.{condition_named, sort_of_condition, usage_numbered}
use Rattle.filter_criteria.specs.Conditions.{FilterField, ValueOf, filter_field, no_conditions}
use Rattle.filter_criteria.specs.Values.{where_it}
use Rattle.filter_criteria.specs.declared.condition.Condition.{Condition}
use Rattle.filter_criteria.specs.declared.condition.Sort.{Sort}
use Rattle.filter_criteria.specs.declared.condition.Sort.TheVariants.{Moment, Count, Labels, Types}
use Rattle.filter_criteria.specs.declared.condition.Sort.TheVariants.{Use}
use Rattle.filter_criteria.specs.declared.filter.FilterParts.{FilterParts}
use Rattle.filter_criteria.specs.declared.filter.FilterUsage.{FilterUsage}
use Rattle.primitive_json.specs.Form.{has_fit_result}
use Rattle.primitive_json.specs.Kinds.{number_spelled, is_among, address_forms}
use Rattle.primitive_json.specs.Members.{retrieves, name_of_member}
use Rattle.primitive_json.specs.declared.member.Member.TheVariants as members
use Rattle.http_target.specs.declared.fault.BindFault.{BindFault}
use Rattle.http_target.specs.declared.fault.BindFault.TheVariants as bind
use Rattle.http_target.specs.declared.query.Key.{Key}
use Rattle.http_target.specs.declared.query.Key.TheVariants.{ResultContent, ResponseType}
use Rattle.http_target.specs.declared.query.Key.TheVariants.{DesiredForm, Unread, OfFilter}
use Rattle.http_target.specs.declared.query.Query.{Query}

-- ---- the pairs

-- a key and a value
abbrev pub Pair : Type 0
Pair = List ℕ × List ℕ

-- the text that a key or a value stands for: what is no UTF-8 in it becomes U+FFFD
abbrev pub decoded : List ℕ → List ℕ
decoded bytes = utf8_lossy (form.decode bytes)

-- The key and the value of a pair, both decoded.
abbrev pub decoded_pair : Pair → Pair
decoded_pair pair = (decoded pair.0, decoded pair.1)

-- the pairs of a query, as a form has them (URL Standard, section 5.1)
abbrev pub decoded_pairs : List ℕ → List Pair
decoded_pairs query = map decoded_pair (form.raw_pairs query)

-- ---- the keys

-- the keys that are accepted and never read (the profile's)
abbrev pub unread_keys : List (List ℕ)
unread_keys = codes "da" ∷ codes "rp" ∷ []

-- The key is accepted and never read.
abbrev pub is_unread : List ℕ → Bool
is_unread name = is_one_of unread_keys name

-- what a key stands for, where it stands for anything
abbrev pub key_named : List ℕ → Option Key
key_named name =
    if bytes_eq name (name_of_member members.ResultContent) then Some ResultContent
    else (if bytes_eq name (name_of_member members.ResponseType) then Some ResponseType
    else (if bytes_eq name (name_of_member members.DesiredForm) then Some DesiredForm
    else (if is_unread name then Some Unread
    else option_map OfFilter (condition_named name))))

-- ---- the values

-- the number that 1 to 18 digits write, as one with a sign
abbrev pub whole_spelled : List ℕ → Option ℤ
whole_spelled s = option_map pos (number_spelled s)

-- the content of the result: one of those of the operation, where it has any, else any number
abbrev pub is_result : Op → ℤ → Bool
is_result op z = has_fit_result op (Some z)

abbrev pub result_spelled : Op → List ℕ → Option ℤ
result_spelled op s = where_it (is_result op) (whole_spelled s)

-- the form of the addresses that a discovery gives
abbrev pub form_spelled : List ℕ → Option ℤ
form_spelled s = where_it (is_among address_forms) (whole_spelled s)

-- how a filter is used
abbrev pub usage_spelled : List ℕ → Option FilterUsage
usage_spelled s = option_and_then usage_numbered (whole_spelled s)

-- what stands between single spaces
abbrev pub words_of : List ℕ → List (List ℕ)
words_of s = slice_split (λ b. b == 32) s

-- a label, which is UTF-8
abbrev pub spells_label : List ℕ → Bool
spells_label s = is_label_text s && is_utf8 s

-- the labels that the words of a text are, where each is one
abbrev pub labels_spelled : List ℕ → Option (List (List ℕ))
labels_spelled s = if list_all spells_label (words_of s) then Some (words_of s) else None

-- the number of a type
abbrev pub type_spelled : List ℕ → Option ℕ
type_spelled s = where_it is_type_number (number_spelled s)

-- The text spells the number of a type.
abbrev pub is_type_text : List ℕ → Bool
is_type_text s = is_some (type_spelled s)

-- the numbers of types that the words of a text are, where each is one
abbrev pub types_spelled : List ℕ → Option (List ℕ)
types_spelled s =
    if list_all is_type_text (words_of s) then Some (filter_map type_spelled (words_of s)) else None

-- ---- what the pairs say

-- a place that is empty, with a value that is there: a key stands once
abbrev pub placed : {A : Type 0} → Option A → Option A → Option (Option A)
placed place None = None
placed None (Some value) = Some (Some value)
placed (Some old) (Some value) = None

-- the filter with what one more condition says, in a field that is empty
abbrev pub placed_in : {A : Type 0} → FilterField (Option A) → Option A → FilterParts
    → Option FilterParts
placed_in field value f = option_map (λ o. field.with_value o f) (placed (field.value f) value)

-- the filter with more values behind those of a field, where there are any
abbrev pub joined_in : {A : Type 0} → FilterField (List A) → Option (List A) → FilterParts
    → Option FilterParts
joined_in field more f = option_map (λ values. field.with_value (field.value f ++ values) f) more

-- the filter with a number in the field of a condition whose sort has one
abbrev pub numbered : (sort : Sort) → FilterField (ValueOf sort) → Option ℕ → FilterParts
    → Option FilterParts
numbered Moment field n f = placed_in field n f
numbered Count field n f = placed_in field n f
numbered Labels field n f = None
numbered Types field n f = None
numbered Use field n f = None

-- the filter with one more condition on a moment or a number
abbrev pub with_number : Condition → Option ℕ → FilterParts → Option FilterParts
with_number condition n f =
    numbered (sort_of_condition condition) (filter_field condition) n f

-- the filter with what a text says in the field of a condition of this sort
abbrev pub with_text : (sort : Sort) → FilterField (ValueOf sort) → List ℕ → FilterParts
    → Option FilterParts
with_text Moment field s f = numbered Moment field (moment_at s) f
with_text Count field s f = numbered Count field (number_spelled s) f
with_text Labels field s f = joined_in field (labels_spelled s) f
with_text Types field s f = joined_in field (types_spelled s) f
with_text Use field s f = placed_in field (usage_spelled s) f

-- the filter with one more condition, where the text is that of its sort
abbrev pub with_condition : Condition → List ℕ → FilterParts → Option FilterParts
with_condition condition s f = with_text (sort_of_condition condition) (filter_field condition) s f

-- a query that says nothing
abbrev pub nothing_said : Query
nothing_said = record { rcn = None; rt = None; fc = None; drt = None }

-- The query with this result content (`rcn`); none where it has one, or where there is no number.
abbrev pub with_result : Option ℤ → Query → Option Query
with_result number q = option_map (λ o. record q { rcn = o }) (placed q.rcn number)

-- The query with this response type (`rt`); none where it has one, or where there is no number.
abbrev pub with_response : Option ℤ → Query → Option Query
with_response number q = option_map (λ o. record q { rt = o }) (placed q.rt number)

-- The query with this form of addresses (`drt`); none where it has one, or where there is no
-- number.
abbrev pub with_form : Option ℤ → Query → Option Query
with_form number q = option_map (λ o. record q { drt = o }) (placed q.drt number)

-- The query with one more condition of its filter, by the text of its value; none where that can't
-- be.
abbrev pub with_filter : Condition → List ℕ → Query → Option Query
with_filter condition s q =
    option_map (λ f. record q { fc = Some f })
    (with_condition condition s (unwrap_or q.fc no_conditions))

-- the query with what one more key says: conditions stand on a Retrieve alone (the profile's)
abbrev pub with_key : Op → Key → List ℕ → Query → Option Query
with_key op ResultContent s q = with_result (result_spelled op s) q
with_key op ResponseType s q = with_response (whole_spelled s) q
with_key op DesiredForm s q = with_form (form_spelled s) q
with_key op Unread s q = Some q
with_key op (OfFilter condition) s q = if retrieves op then with_filter condition s q else None

-- the query with what one more pair says, where it has a key that is served
abbrev pub said_more : Op → Pair → Query → Option Query
said_more op pair q = option_and_then (λ key. with_key op key pair.1 q) (key_named pair.0)

-- The query with what one more pair says, or the fault that names the key of a bad pair.
abbrev pub pair_said : Op → Pair → Query → Result Query BindFault
pair_said op pair q =
    option_map_or (λ said. Ok said) (said_more op pair q) (Err (bind.Query pair.0))
