-- What the pairs of a query say is of its kinds.
use Rattle.std.proofs.Common.{◌≡◌, ℕ, ◌^◌, ◌<◌, ◌≤◌, Bool, true, false, List, [], ◌∷◌, ◌++◌, length, drop, Option, Some, None, Result, Ok, Err, IfSome, refl, sym, ap, subst, ◌∙◌, arith}
use Rattle.std.specs.Bool.{if◌then◌else◌}
use Rattle.std.specs.Prelude.{ℤ, option_map, option_and_then, unwrap_or}
use Rattle.std.specs.List.{list_all, filter_map, cons_option, AllByRecursion}
use Rattle.std.specs.Option.{option_map_or}
use Rattle.std.specs.Result.{result_unwrap_or, is_ok}
use Rattle.std.specs.Str.{IsUtf8, is_utf8}
use Rattle.std.specs.Str.Parse.{digits_value}
use Rattle.std.proofs.lemmas.Bool.{and_parts, and_from, leb-true, false≢true}
use Rattle.std.proofs.lemmas.List.{drop_all}
use Rattle.std.proofs.lemmas.Str.{IsUtf8-from_is_utf8}
use Rattle.m2m_names.specs.Types.{is_type_number}
use Rattle.m2m_names.specs.StampReading.{moment_at}
use Rattle.m2m_names.proofs.StampReadingLemmas.{read_last}
use Rattle.m2m_names.specs.declared.operations.Op.{Op}
use Rattle.m2m_value.specs.Shapes.{is_label_text}
use Rattle.filter_criteria.specs.Bounds.{IsMoment, IsCount}
use Rattle.filter_criteria.specs.Conditions.{sort_of_condition, ValueOf, FilterField, filter_field, OfEachCondition, no_conditions}
use Rattle.filter_criteria.specs.Filters.{IsSoundValue, IsSoundFilter}
use Rattle.filter_criteria.specs.Laws.{IsValueOfKind, IsFilterOfKinds}
use Rattle.filter_criteria.specs.Values.{where_it}
use Rattle.filter_criteria.proofs.Fields.{of_condition, each_condition}
use Rattle.filter_criteria.specs.declared.condition.Condition.{Condition}
use Rattle.filter_criteria.specs.declared.condition.Condition.TheVariants.{CreatedAfter, CreatedBefore, ExpireAfter, ExpireBefore, Usage, OneLabel, Limit, ModifiedSince, StateTagBigger, StateTagSmaller, SizeAbove, SizeBelow, OneType, UnmodifiedSince}
use Rattle.filter_criteria.specs.declared.condition.Sort.{Sort}
use Rattle.filter_criteria.specs.declared.condition.Sort.TheVariants.{Moment, Count, Labels, Types, Use}
use Rattle.filter_criteria.specs.declared.filter.FilterParts.{FilterParts}
use Rattle.primitive_json.specs.Kinds.{is_numeral, number_spelled, address_forms, is_among}
use Rattle.primitive_json.specs.Members.{retrieves}
use Rattle.m2m_names.proofs.NumeralLemmas.{numeral_bound}
use Rattle.http_target.specs.declared.fault.BindFault.{BindFault}
use Rattle.http_target.specs.declared.query.Key.{Key}
use Rattle.http_target.specs.declared.query.Key.TheVariants.{ResultContent, ResponseType, DesiredForm, Unread, OfFilter}
use Rattle.http_target.specs.declared.query.Query.{Query}
use Rattle.http_target.specs.Chain.{and_then}
use Rattle.http_target.specs.Said.{said_by}
use Rattle.http_target.specs.Queries.{Pair, key_named, whole_spelled, is_result, result_spelled, form_spelled, usage_spelled, words_of, spells_label, labels_spelled, type_spelled, is_type_text, types_spelled, placed, placed_in, joined_in, numbered, with_number, with_text, with_condition, nothing_said, with_result, with_response, with_form, with_filter, with_key, said_more, pair_said}

-- what a chain that gives a value has read first, and what it has gone on to
pub record Reads {T U : Type 0} (part : Result T BindFault) (next : T → Result U BindFault) (value : U) : Type 0 where
  pub first : T
  pub read : part ≡ Ok first
  pub rest : next first ≡ Ok value

pub reads : {T U : Type 0} (part : Result T BindFault) (next : T → Result U BindFault) (value : U) → and_then part next ≡ Ok value → Reads part next value
reads (Ok first) next value h = record { first = first; read = refl; rest = h }
reads (Err fault) next value h = absurd (false≢true (ap is_ok h))

-- ---- values

any_of : {A : Type 0} (o : Option A) → IfSome o (λ _. Unit {0})
any_of None = tt
any_of (Some a) = tt

mapped : {A B : Type 0} (P : A → Type 0) (Q : B → Type 0) (f : A → B) (o : Option A) → IfSome o P → ((a : A) → P a → Q (f a)) → IfSome (option_map f o) Q
mapped P Q f None h g = tt
mapped P Q f (Some a) h g = g a h

where_by : {A : Type 0} (test : A → Bool) (a : A) (b : Bool) → test a ≡ b → IfSome (if b then Some a else None) (λ x. test x ≡ true)
where_by test a true is = is
where_by test a false is = tt

where_passes : {A : Type 0} (test : A → Bool) (o : Option A) → IfSome (where_it test o) (λ a. test a ≡ true)
where_passes test None = tt
where_passes test (Some a) = where_by test a (test a) refl

placed_holds : {A : Type 0} (P : A → Type 0) (place value : Option A) → IfSome place P → IfSome value P → IfSome (placed place value) (λ o. IfSome o P)
placed_holds P place None hp hv = tt
placed_holds P None (Some value) hp hv = hv
placed_holds P (Some old) (Some value) hp hv = tt

moment_of : (s : List ℕ) → IfSome (moment_at s) IsMoment
moment_of s = read_last s (moment_at s) refl

count_by_test : (s : List ℕ) (b : Bool) → is_numeral s ≡ b → IfSome (if b then Some (digits_value 10 s) else None) IsCount
count_by_test s true is = let short : digits_value 10 s < 10 ^ 18 = numeral_bound s is in omega arith
count_by_test s false is = tt

count_of : (s : List ℕ) → IfSome (number_spelled s) IsCount
count_of s = count_by_test s (is_numeral s) refl

all_append : {A : Type 0} (p : A → Bool) (xs ys : List A) → list_all p xs ≡ true → list_all p ys ≡ true → list_all p (xs ++ ys) ≡ true
all_append p [] ys hx hy = hy
all_append p (x ∷ xs) ys hx hy =
    let parts = and_parts (p x) (list_all p xs) hx in
    and_from (p x) (list_all p (xs ++ ys)) parts.0 (all_append p xs ys parts.1 hy)

push_short : (n : Option ℕ) (types : List ℕ) → IfSome n (λ k. is_type_number k ≡ true) → list_all is_type_number types ≡ true → list_all is_type_number (cons_option n types) ≡ true
push_short None types hn h = h
push_short (Some n) types hn h = and_from (is_type_number n) (list_all is_type_number types) hn h

numbers_short : (words : List (List ℕ)) → list_all is_type_number (filter_map type_spelled words) ≡ true
numbers_short [] = refl
numbers_short (word ∷ words) = push_short (type_spelled word) (filter_map type_spelled words) (where_passes is_type_number (number_spelled word)) (numbers_short words)

chosen_holds : {A : Type 0} (P : A → Type 0) (b : Bool) (a : A) → (b ≡ true → P a) → IfSome (if b then Some a else None) P
chosen_holds P true a h = h refl
chosen_holds P false a h = tt

labels_of : (s : List ℕ) → IfSome (labels_spelled s) (λ l. list_all spells_label l ≡ true)
labels_of s = chosen_holds (λ l. list_all spells_label l ≡ true) (list_all spells_label (words_of s)) (words_of s) (λ is. is)

types_of : (s : List ℕ) → IfSome (types_spelled s) (λ l. list_all is_type_number l ≡ true)
types_of s =
    chosen_holds (λ l. list_all is_type_number l ≡ true) (list_all is_type_text (words_of s)) (filter_map type_spelled (words_of s)) (λ is. numbers_short (words_of s))

-- ---- the filter

-- what a query says of a condition of each sort
abbrev pub IsSaidValue : (sort : Sort) → ValueOf sort → Type 0
IsSaidValue Moment at = IfSome at IsMoment
IsSaidValue Count n = IfSome n IsCount
IsSaidValue Labels labels = list_all spells_label labels ≡ true
IsSaidValue Types types = list_all is_type_number types ≡ true
IsSaidValue Use usage = Unit {0}

-- a filter as a query says it
abbrev pub IsSaidFilter : FilterParts → Type 0
IsSaidFilter f = OfEachCondition IsSaidValue f

none_said : IsSaidFilter no_conditions
none_said = (tt, (tt, (tt, (tt, (tt, (refl, (tt, (tt, (tt, (tt, (tt, (tt, (refl, (tt, tt))))))))))))))

-- the other fields stay
field_said : (condition : Condition) (value : ValueOf (sort_of_condition condition)) (f : FilterParts) → IsSaidFilter f → IsSaidValue (sort_of_condition condition) value → IsSaidFilter ((filter_field condition).with_value value f)
field_said CreatedAfter value f h fits = (fits, h.1)
field_said CreatedBefore value f h fits = (h.0, (fits, h.1.1))
field_said ExpireAfter value f h fits = (h.0, (h.1.0, (fits, h.1.1.1)))
field_said ExpireBefore value f h fits = (h.0, (h.1.0, (h.1.1.0, (fits, h.1.1.1.1))))
field_said Usage value f h fits = (h.0, (h.1.0, (h.1.1.0, (h.1.1.1.0, (fits, h.1.1.1.1.1)))))
field_said OneLabel value f h fits = (h.0, (h.1.0, (h.1.1.0, (h.1.1.1.0, (h.1.1.1.1.0, (fits, h.1.1.1.1.1.1))))))
field_said Limit value f h fits = (h.0, (h.1.0, (h.1.1.0, (h.1.1.1.0, (h.1.1.1.1.0, (h.1.1.1.1.1.0, (fits, h.1.1.1.1.1.1.1)))))))
field_said ModifiedSince value f h fits = (h.0, (h.1.0, (h.1.1.0, (h.1.1.1.0, (h.1.1.1.1.0, (h.1.1.1.1.1.0, (h.1.1.1.1.1.1.0, (fits, h.1.1.1.1.1.1.1.1))))))))
field_said StateTagBigger value f h fits = (h.0, (h.1.0, (h.1.1.0, (h.1.1.1.0, (h.1.1.1.1.0, (h.1.1.1.1.1.0, (h.1.1.1.1.1.1.0, (h.1.1.1.1.1.1.1.0, (fits, h.1.1.1.1.1.1.1.1.1)))))))))
field_said StateTagSmaller value f h fits = (h.0, (h.1.0, (h.1.1.0, (h.1.1.1.0, (h.1.1.1.1.0, (h.1.1.1.1.1.0, (h.1.1.1.1.1.1.0, (h.1.1.1.1.1.1.1.0, (h.1.1.1.1.1.1.1.1.0, (fits, h.1.1.1.1.1.1.1.1.1.1))))))))))
field_said SizeAbove value f h fits = (h.0, (h.1.0, (h.1.1.0, (h.1.1.1.0, (h.1.1.1.1.0, (h.1.1.1.1.1.0, (h.1.1.1.1.1.1.0, (h.1.1.1.1.1.1.1.0, (h.1.1.1.1.1.1.1.1.0, (h.1.1.1.1.1.1.1.1.1.0, (fits, h.1.1.1.1.1.1.1.1.1.1.1)))))))))))
field_said SizeBelow value f h fits = (h.0, (h.1.0, (h.1.1.0, (h.1.1.1.0, (h.1.1.1.1.0, (h.1.1.1.1.1.0, (h.1.1.1.1.1.1.0, (h.1.1.1.1.1.1.1.0, (h.1.1.1.1.1.1.1.1.0, (h.1.1.1.1.1.1.1.1.1.0, (h.1.1.1.1.1.1.1.1.1.1.0, (fits, h.1.1.1.1.1.1.1.1.1.1.1.1))))))))))))
field_said OneType value f h fits = (h.0, (h.1.0, (h.1.1.0, (h.1.1.1.0, (h.1.1.1.1.0, (h.1.1.1.1.1.0, (h.1.1.1.1.1.1.0, (h.1.1.1.1.1.1.1.0, (h.1.1.1.1.1.1.1.1.0, (h.1.1.1.1.1.1.1.1.1.0, (h.1.1.1.1.1.1.1.1.1.1.0, (h.1.1.1.1.1.1.1.1.1.1.1.0, (fits, h.1.1.1.1.1.1.1.1.1.1.1.1.1)))))))))))))
field_said UnmodifiedSince value f h fits = (h.0, (h.1.0, (h.1.1.0, (h.1.1.1.0, (h.1.1.1.1.0, (h.1.1.1.1.1.0, (h.1.1.1.1.1.1.0, (h.1.1.1.1.1.1.1.0, (h.1.1.1.1.1.1.1.1.0, (h.1.1.1.1.1.1.1.1.1.0, (h.1.1.1.1.1.1.1.1.1.1.0, (h.1.1.1.1.1.1.1.1.1.1.1.0, (h.1.1.1.1.1.1.1.1.1.1.1.1.0, (fits, h.1.1.1.1.1.1.1.1.1.1.1.1.1.1))))))))))))))

-- with what is placed in a field
placed_said : {A : Type 0} (field : FilterField (Option A)) (P : A → Type 0) (value : Option A) (f : FilterParts) → IfSome (field.value f) P → IfSome value P → ((o : Option A) → IfSome o P → IsSaidFilter (field.with_value o f)) → IfSome (placed_in field value f) IsSaidFilter
placed_said field P value f held good fits =
    mapped (λ o. IfSome o P) IsSaidFilter (λ o. field.with_value o f) (placed (field.value f) value) (placed_holds P (field.value f) value held good) fits

-- and with what is put behind what a field has
joined_said : {A : Type 0} (field : FilterField (List A)) (test : A → Bool) (more : Option (List A)) (f : FilterParts) → list_all test (field.value f) ≡ true → IfSome more (λ l. list_all test l ≡ true) → ((l : List A) → list_all test l ≡ true → IsSaidFilter (field.with_value l f)) → IfSome (joined_in field more f) IsSaidFilter
joined_said field test more f held good fits =
    mapped (λ l. list_all test l ≡ true) IsSaidFilter (λ l. field.with_value (field.value f ++ l) f) more good (λ l all. fits (field.value f ++ l) (all_append test (field.value f) l held all))

text_said : (sort : Sort) (field : FilterField (ValueOf sort)) (s : List ℕ) (f : FilterParts) → IsSaidValue sort (field.value f) → ((value : ValueOf sort) → IsSaidValue sort value → IsSaidFilter (field.with_value value f)) → IfSome (with_text sort field s f) IsSaidFilter
text_said Moment field s f held fits = placed_said field IsMoment (moment_at s) f held (moment_of s) fits
text_said Count field s f held fits = placed_said field IsCount (number_spelled s) f held (count_of s) fits
text_said Labels field s f held fits = joined_said field spells_label (labels_spelled s) f held (labels_of s) fits
text_said Types field s f held fits = joined_said field is_type_number (types_spelled s) f held (types_of s) fits
text_said Use field s f held fits = placed_said field (λ _. Unit {0}) (usage_spelled s) f (any_of (field.value f)) (any_of (usage_spelled s)) (λ o _. fits o tt)

condition_said : (condition : Condition) (s : List ℕ) (f : FilterParts) → IsSaidFilter f → IfSome (with_condition condition s f) IsSaidFilter
condition_said condition s f h =
    text_said (sort_of_condition condition) (filter_field condition) s f (of_condition IsSaidValue f h condition) (λ value fits. field_said condition value f h fits)

-- the one condition of a sort that has no other
abbrev pub IsLone : Sort → Condition → Type 0
IsLone Moment condition = Unit {0}
IsLone Count condition = Unit {0}
IsLone Labels condition = condition ≡ OneLabel
IsLone Types condition = condition ≡ OneType
IsLone Use condition = condition ≡ Usage

pub lone_of_its_sort : (condition : Condition) → IsLone (sort_of_condition condition) condition
lone_of_its_sort CreatedAfter = tt
lone_of_its_sort CreatedBefore = tt
lone_of_its_sort ExpireAfter = tt
lone_of_its_sort ExpireBefore = tt
lone_of_its_sort Usage = refl
lone_of_its_sort OneLabel = refl
lone_of_its_sort Limit = tt
lone_of_its_sort ModifiedSince = tt
lone_of_its_sort StateTagBigger = tt
lone_of_its_sort StateTagSmaller = tt
lone_of_its_sort SizeAbove = tt
lone_of_its_sort SizeBelow = tt
lone_of_its_sort OneType = refl
lone_of_its_sort UnmodifiedSince = tt

pub usage_is : (condition : Condition) → sort_of_condition condition ≡ Use → condition ≡ Usage
usage_is condition is = subst (λ (sort : Sort). IsLone sort condition) is (lone_of_its_sort condition)

pub label_is : (condition : Condition) → sort_of_condition condition ≡ Labels → condition ≡ OneLabel
label_is condition is = subst (λ (sort : Sort). IsLone sort condition) is (lone_of_its_sort condition)

pub type_is : (condition : Condition) → sort_of_condition condition ≡ Types → condition ≡ OneType
type_is condition is = subst (λ (sort : Sort). IsLone sort condition) is (lone_of_its_sort condition)

-- what is given for a condition that is known
pub number_by : (condition known : Condition) (n : Option ℕ) (f : FilterParts) (given : Option FilterParts) → condition ≡ known → given ≡ with_number known n f → given ≡ with_number condition n f
number_by condition known n f given is told = told ∙ ap (λ (k : Condition). with_number k n f) (sym is)

-- the number that a text says on a condition of a sort that has one
pub moment_text : (sort : Sort) (field : FilterField (ValueOf sort)) (s : List ℕ) (f : FilterParts) → sort ≡ Moment → numbered sort field (moment_at s) f ≡ with_text sort field s f
moment_text Moment field s f is = refl
moment_text Count field s f is = let h : Count ≡ Moment = is in cc
moment_text Labels field s f is = let h : Labels ≡ Moment = is in cc
moment_text Types field s f is = let h : Types ≡ Moment = is in cc
moment_text Use field s f is = let h : Use ≡ Moment = is in cc

pub count_text : (sort : Sort) (field : FilterField (ValueOf sort)) (s : List ℕ) (f : FilterParts) → sort ≡ Count → numbered sort field (number_spelled s) f ≡ with_text sort field s f
count_text Moment field s f is = let h : Moment ≡ Count = is in cc
count_text Count field s f is = refl
count_text Labels field s f is = let h : Labels ≡ Count = is in cc
count_text Types field s f is = let h : Types ≡ Count = is in cc
count_text Use field s f is = let h : Use ≡ Count = is in cc

labels_utf8 : (labels : List (List ℕ)) → list_all spells_label labels ≡ true → AllByRecursion IsUtf8 labels
labels_utf8 [] h = tt
labels_utf8 (label ∷ labels) h =
    let parts = and_parts (spells_label label) (list_all spells_label labels) h in
    (IsUtf8-from_is_utf8 label (and_parts (is_label_text label) (is_utf8 label) parts.0).1, labels_utf8 labels parts.1)

labels_filled : (labels : List (List ℕ)) → list_all spells_label labels ≡ true → list_all is_label_text labels ≡ true
labels_filled [] h = refl
labels_filled (label ∷ labels) h =
    let parts = and_parts (spells_label label) (list_all spells_label labels) h in
    and_from (is_label_text label) _ (and_parts (is_label_text label) (is_utf8 label) parts.0).0 (labels_filled labels parts.1)

short_count : (n : ℕ) → is_type_number n ≡ true → IsCount n
short_count n h = let low : n ≤ 65_535 = leb-true n 65_535 h in omega arith

types_counts : (types : List ℕ) → list_all is_type_number types ≡ true → AllByRecursion IsCount types
types_counts [] h = tt
types_counts (n ∷ types) h =
    let parts = and_parts (is_type_number n) (list_all is_type_number types) h in (short_count n parts.0, types_counts types parts.1)

value_sound : (sort : Sort) (value : ValueOf sort) → IsSaidValue sort value → IsSoundValue sort value
value_sound Moment at h = h
value_sound Count n h = h
value_sound Labels labels h = labels_utf8 labels h
value_sound Types types h = types_counts types h
value_sound Use usage h = tt

pub filter_sound : (f : FilterParts) → IsSaidFilter f → IsSoundFilter f
filter_sound f h = each_condition IsSaidValue IsSoundValue value_sound f h

value_of_kind : (sort : Sort) (value : ValueOf sort) → IsSaidValue sort value → IsValueOfKind sort value
value_of_kind Moment at h = h
value_of_kind Count n h = tt
value_of_kind Labels labels h = labels_filled labels h
value_of_kind Types types h = h
value_of_kind Use usage h = tt

pub filter_kinds : (f : FilterParts) → IsSaidFilter f → IsFilterOfKinds f
filter_kinds f h = each_condition IsSaidValue IsValueOfKind value_of_kind f h

-- ---- the query

-- what a query of an operation says
pub record IsSaid (op : Op) (q : Query) : Type 0 where
  pub rcn : IfSome q.rcn (λ z. is_result op z ≡ true)
  pub fc : IfSome q.fc (λ f. (retrieves op ≡ true) × IsSaidFilter f)
  pub drt : IfSome q.drt (λ z. is_among address_forms z ≡ true)

result_said : (op : Op) (s : List ℕ) (q : Query) → IsSaid op q → IfSome (with_result (result_spelled op s) q) (IsSaid op)
result_said op s q h =
    mapped (λ o. IfSome o (λ z. is_result op z ≡ true)) (IsSaid op) (λ o. record q { rcn = o }) (placed q.rcn (result_spelled op s))
    (placed_holds (λ z. is_result op z ≡ true) q.rcn (result_spelled op s) h.rcn (where_passes (is_result op) (whole_spelled s)))
    (λ o fits. record { rcn = fits; fc = h.fc; drt = h.drt })

response_said : (op : Op) (number : Option ℤ) (q : Query) → IsSaid op q → IfSome (with_response number q) (IsSaid op)
response_said op number q h =
    mapped (λ _. Unit {0}) (IsSaid op) (λ o. record q { rt = o }) (placed q.rt number) (any_of (placed q.rt number))
    (λ o _. record { rcn = h.rcn; fc = h.fc; drt = h.drt })

form_said : (op : Op) (s : List ℕ) (q : Query) → IsSaid op q → IfSome (with_form (form_spelled s) q) (IsSaid op)
form_said op s q h =
    mapped (λ o. IfSome o (λ z. is_among address_forms z ≡ true)) (IsSaid op) (λ o. record q { drt = o }) (placed q.drt (form_spelled s))
    (placed_holds (λ z. is_among address_forms z ≡ true) q.drt (form_spelled s) h.drt (where_passes (is_among address_forms) (whole_spelled s)))
    (λ o fits. record { rcn = h.rcn; fc = h.fc; drt = fits })

filter_held : (op : Op) (fc : Option FilterParts) → IfSome fc (λ f. (retrieves op ≡ true) × IsSaidFilter f) → IsSaidFilter (unwrap_or fc no_conditions)
filter_held op None h = none_said
filter_held op (Some f) h = h.1

filter_said : (op : Op) (condition : Condition) (s : List ℕ) (q : Query) → retrieves op ≡ true → IsSaid op q → IfSome (with_filter condition s q) (IsSaid op)
filter_said op condition s q reads h =
    let before = unwrap_or q.fc no_conditions in
    mapped IsSaidFilter (IsSaid op) (λ f. record q { fc = Some f }) (with_condition condition s before)
    (condition_said condition s before (filter_held op q.fc h.fc))
    (λ f fits. record { rcn = h.rcn; fc = (reads, fits); drt = h.drt })

filter_by : (op : Op) (condition : Condition) (s : List ℕ) (q : Query) (b : Bool) → retrieves op ≡ b → IsSaid op q → IfSome (if b then with_filter condition s q else None) (IsSaid op)
filter_by op condition s q true is h = filter_said op condition s q is h
filter_by op condition s q false is h = tt

key_said : (op : Op) (key : Key) (s : List ℕ) (q : Query) → IsSaid op q → IfSome (with_key op key s q) (IsSaid op)
key_said op ResultContent s q h = result_said op s q h
key_said op ResponseType s q h = response_said op (whole_spelled s) q h
key_said op DesiredForm s q h = form_said op s q h
key_said op Unread s q h = h
key_said op (OfFilter condition) s q h = filter_by op condition s q (retrieves op) refl h

more_by : (op : Op) (key : Option Key) (s : List ℕ) (q : Query) → IsSaid op q → IfSome (option_and_then (λ k. with_key op k s q) key) (IsSaid op)
more_by op None s q h = tt
more_by op (Some key) s q h = key_said op key s q h

pair_by : (op : Op) (said : Option Query) (fault : BindFault) (q : Query) → IfSome said (IsSaid op) → option_map_or (λ s. Ok s) said (Err fault) ≡ Ok q → IsSaid op q
pair_by op None fault q h is = absurd (false≢true (ap is_ok is))
pair_by op (Some said) fault q h is = subst (IsSaid op) (ap (λ r. result_unwrap_or r said) is) h

pub said_on : (op : Op) (pairs : List Pair) (q last : Query) → IsSaid op q → said_by op pairs q ≡ Ok last → IsSaid op last
said_on op [] q last h is = subst (IsSaid op) (ap (λ r. result_unwrap_or r q) is) h
said_on op (pair ∷ pairs) q last h is =
    let next = reads (pair_said op pair q) (said_by op pairs) last is in
    let good = pair_by op (said_more op pair q) _ next.first (more_by op (key_named pair.0) pair.1 q h) next.read in
    said_on op pairs next.first last good next.rest

pub nothing_is_said : (op : Op) → IsSaid op nothing_said
nothing_is_said op = record { rcn = tt; fc = tt; drt = tt }

-- ---- pair by pair

pub pairs_end : (op : Op) (pairs : List Pair) (i : ℕ) (q : Query) (told : Result Query BindFault) → told ≡ said_by op (drop i pairs) q → length pairs ≤ i → told ≡ Ok q
pairs_end op pairs i q told so all = so ∙ ap (λ ps. said_by op ps q) (drop_all i pairs all)
