-- The query of a request (TS-0009, 6.2.2.3): its pairs, as a form writes them.
use Rattle.std.specs.Prelude.{ℕ, ℤ, List, [], ◌∷◌, ◌++◌, map, Option, Some, None, option_map}
use Rattle.std.specs.Prelude.{if◌then◌else◌}
use Rattle.std.specs.Fmt.{decimal, signed_decimal}
use Rattle.std.specs.List.{flat_map}
use Rattle.form_urlencoded.specs.Form.{extend_pairs}
use Rattle.http_uri.specs.ByteClasses.{question_mark}
use Rattle.m2m_names.specs.Stamps.{timestamp}
use Rattle.filter_criteria.specs.Conditions.{ValueOf, asked_of, name_of_condition}
use Rattle.filter_criteria.specs.Conditions.{sort_of_condition, usage_number}
use Rattle.filter_criteria.specs.declared.condition.Condition.{Condition}
use Rattle.filter_criteria.specs.declared.condition.Condition.TheVariants.{CreatedAfter}
use Rattle.filter_criteria.specs.declared.condition.Condition.TheVariants.{CreatedBefore}
use Rattle.filter_criteria.specs.declared.condition.Condition.TheVariants.{ExpireAfter}
use Rattle.filter_criteria.specs.declared.condition.Condition.TheVariants.{ExpireBefore}
use Rattle.filter_criteria.specs.declared.condition.Condition.TheVariants.{Usage, OneLabel, Limit}
use Rattle.filter_criteria.specs.declared.condition.Condition.TheVariants.{ModifiedSince}
use Rattle.filter_criteria.specs.declared.condition.Condition.TheVariants.{StateTagBigger}
use Rattle.filter_criteria.specs.declared.condition.Condition.TheVariants.{StateTagSmaller}
use Rattle.filter_criteria.specs.declared.condition.Condition.TheVariants.{SizeAbove, SizeBelow}
use Rattle.filter_criteria.specs.declared.condition.Condition.TheVariants.{OneType, UnmodifiedSince}
use Rattle.filter_criteria.specs.declared.condition.Sort.{Sort}
use Rattle.filter_criteria.specs.declared.condition.Sort.TheVariants.{Moment, Count, Labels, Types}
use Rattle.filter_criteria.specs.declared.condition.Sort.TheVariants.{Use}
use Rattle.filter_criteria.specs.declared.filter.FilterParts.{FilterParts}
use Rattle.primitive_json.specs.Members.{name_of_member}
use Rattle.primitive_json.specs.declared.member.Member.TheVariants.{DesiredForm, ResultContent}
use Rattle.primitive_json.specs.declared.request.RequestParts.{RequestParts}
use Rattle.http_binding.specs.Headers.{is_some_text}
use Rattle.http_target.specs.Queries.{Pair}

-- ---- the texts of values

-- A condition on a moment has its timestamp as its one text, where the condition is given.
abbrev pub moment_texts : Option ℕ → List (List ℕ)
moment_texts None = []
moment_texts (Some at) = timestamp at ∷ []

-- A condition on a count has its decimal digits as its one text, where the condition is given.
abbrev pub count_texts : Option ℕ → List (List ℕ)
count_texts None = []
count_texts (Some n) = decimal n ∷ []

-- A parameter that is a whole number has its digits, with its sign, as its one text, where the
-- parameter is given.
abbrev pub whole_texts : Option ℤ → List (List ℕ)
whole_texts None = []
whole_texts (Some z) = signed_decimal z ∷ []

-- the texts of what a filter has of a condition of each sort: one of each label, and of each type
abbrev pub texts_of_sort : (sort : Sort) → ValueOf sort → List (List ℕ)
texts_of_sort Moment at = moment_texts at
texts_of_sort Count n = count_texts n
texts_of_sort Labels labels = labels
texts_of_sort Types types = map decimal types
texts_of_sort Use usage = whole_texts (option_map usage_number usage)

-- The texts of one condition of a filter.
abbrev pub condition_texts : FilterParts → Condition → List (List ℕ)
condition_texts f condition =
    texts_of_sort (sort_of_condition condition) (asked_of condition f)

-- ---- the pairs

-- each of these values at this key
abbrev pub pairs_at : List ℕ → List (List ℕ) → List Pair
pairs_at key texts = map (λ text. (key, text)) texts

-- The pairs of one condition: its short name with each of its texts.
abbrev pub condition_pairs : FilterParts → Condition → List Pair
condition_pairs f condition = pairs_at (name_of_condition condition) (condition_texts f condition)

-- the conditions in the order in which they are written (the profile's)
abbrev pub written_order : List Condition
written_order =
    CreatedBefore ∷ CreatedAfter ∷ ModifiedSince ∷ UnmodifiedSince ∷ StateTagSmaller ∷
    StateTagBigger ∷ ExpireBefore ∷ ExpireAfter ∷ OneLabel ∷ OneType ∷ SizeAbove ∷ SizeBelow ∷
    Usage ∷ Limit ∷ []

-- The pairs of all conditions of a filter, in the order in which they are written.
abbrev pub filter_pairs : Option FilterParts → List Pair
filter_pairs None = []
filter_pairs (Some f) = flat_map (condition_pairs f) written_order

-- the result content, the conditions of the filter, and the form of addresses, each where it is
-- there
abbrev pub query_pairs : RequestParts → List Pair
query_pairs r =
    pairs_at (name_of_member ResultContent) (whole_texts r.rcn) ++ filter_pairs r.fc
    ++ pairs_at (name_of_member DesiredForm) (whole_texts r.drt)

-- ---- the query

-- the pairs as a form (URL Standard, section 5.2)
abbrev pub query_text : RequestParts → List ℕ
query_text r = extend_pairs [] (query_pairs r)

-- the query behind its mark, where it has a pair
abbrev pub query_part : List ℕ → List ℕ
query_part query = if is_some_text query then question_mark ∷ query else []
