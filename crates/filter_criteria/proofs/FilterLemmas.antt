-- Filters are read back from what is written of them, and what is read is of its kinds.
use Rattle.std.proofs.Common.{◌≡◌, ℕ, List, [], map, Bool, true, is_some, Option, Some, None, option_map, IfSome, refl, ap, ◌∙◌}
use Rattle.std.specs.List.{list_all}
use Rattle.std.specs.Option.{option_map_or}
use Rattle.m2m_names.specs.Types.{is_type_number}
use Rattle.m2m_value.specs.Data.{Data, number, text, Entry}
use Rattle.m2m_value.specs.Shapes.{as_count, is_label, is_label_text}
use Rattle.m2m_value.specs.View.{as_text, member_of}
use Rattle.m2m_value.proofs.Levels.{entries-pairs_of}
use Rattle.filter_criteria.specs.Bounds.{IsMoment}
use Rattle.filter_criteria.specs.Conditions.{read_moment, label_of, usage_number, read_usage, alternatives, all_of, name_of_condition, sort_of_condition, is_of, is_condition, is_filter, all_conditions, ValueOf, asked_of, read_of_sort, value_for, said_of, filter_in}
use Rattle.filter_criteria.specs.Values.{members_in, read_type_number, present, count_data, moment_data}
use Rattle.filter_criteria.specs.Laws.{IsValueOfKind, IsFilterOfKinds}
use Rattle.filter_criteria.specs.Writing.{written_of_sort, condition_value, written_condition, written_filter}
use Rattle.filter_criteria.proofs.Fields.{of_condition}
use Rattle.filter_criteria.proofs.PartLemmas.{where_kept, where_passes, passes_along, each_back, moment_back, moment_last, AllBack, list_back, list_passes, all_back, all_pass as each_passes}
use Rattle.filter_criteria.proofs.Present.{member_of-present, members_in-object_of, all_pass, all_rows}
use Rattle.filter_criteria.specs.declared.condition.Condition.{Condition}
use Rattle.filter_criteria.specs.declared.condition.Condition.TheVariants.{CreatedAfter, CreatedBefore, ExpireAfter, ExpireBefore, Usage, OneLabel, Limit, ModifiedSince, StateTagBigger, StateTagSmaller, SizeAbove, SizeBelow, OneType, UnmodifiedSince}
use Rattle.filter_criteria.specs.declared.condition.Sort.{Sort}
use Rattle.filter_criteria.specs.declared.condition.Sort.TheVariants.{Moment, Count, Labels, Types, Use}
use Rattle.filter_criteria.specs.declared.filter.FilterParts.{FilterParts}
use Rattle.filter_criteria.specs.declared.filter.FilterUsage.{FilterUsage}
use Rattle.filter_criteria.specs.declared.filter.FilterUsage.TheVariants.{Discovery, Conditional}

-- ---- what is written of each condition is read back

usage_back : (usage : FilterUsage) → read_usage (number (usage_number usage)) ≡ Some usage
usage_back Discovery = refl
usage_back Conditional = refl

labels_kept : (ls : List (List ℕ)) → list_all is_label_text ls ≡ true → AllBack label_of text ls
labels_kept ls h = all_back label_of text is_label_text (where_kept is_label_text) ls h

types_kept : (ns : List ℕ) → list_all is_type_number ns ≡ true → AllBack read_type_number count_data ns
types_kept ns h = all_back read_type_number count_data is_type_number (where_kept is_type_number) ns h

any : {A : Type 0} (o : Option A) → IfSome o (λ _. Unit {0})
any None = tt
any (Some a) = tt

value_back : (sort : Sort) (v : ValueOf sort) → IsValueOfKind sort v → read_of_sort sort (written_of_sort sort v) ≡ v
value_back Moment at h = each_back read_moment moment_data IsMoment moment_back at h
value_back Count n h = each_back as_count count_data (λ n. Unit {0}) (λ n h. refl) n (any n)
value_back Labels labels h = list_back label_of text labels (labels_kept labels h)
value_back Types types h = list_back read_type_number count_data types (types_kept types h)
value_back Use usage h = each_back read_usage (λ u. number (usage_number u)) (λ u. Unit {0}) (λ u h. usage_back u) usage (any usage)

-- ---- the filter of the members

-- the value at the name of a condition
there : (f : FilterParts) (condition : Condition) → member_of (name_of_condition condition) (present (map (written_condition f) all_conditions)) ≡ condition_value f condition
there f CreatedAfter = member_of-present (name_of_condition CreatedAfter) (map (written_condition f) all_conditions) refl
there f CreatedBefore = member_of-present (name_of_condition CreatedBefore) (map (written_condition f) all_conditions) refl
there f ExpireAfter = member_of-present (name_of_condition ExpireAfter) (map (written_condition f) all_conditions) refl
there f ExpireBefore = member_of-present (name_of_condition ExpireBefore) (map (written_condition f) all_conditions) refl
there f Usage = member_of-present (name_of_condition Usage) (map (written_condition f) all_conditions) refl
there f OneLabel = member_of-present (name_of_condition OneLabel) (map (written_condition f) all_conditions) refl
there f Limit = member_of-present (name_of_condition Limit) (map (written_condition f) all_conditions) refl
there f ModifiedSince = member_of-present (name_of_condition ModifiedSince) (map (written_condition f) all_conditions) refl
there f StateTagBigger = member_of-present (name_of_condition StateTagBigger) (map (written_condition f) all_conditions) refl
there f StateTagSmaller = member_of-present (name_of_condition StateTagSmaller) (map (written_condition f) all_conditions) refl
there f SizeAbove = member_of-present (name_of_condition SizeAbove) (map (written_condition f) all_conditions) refl
there f SizeBelow = member_of-present (name_of_condition SizeBelow) (map (written_condition f) all_conditions) refl
there f OneType = member_of-present (name_of_condition OneType) (map (written_condition f) all_conditions) refl
there f UnmodifiedSince = member_of-present (name_of_condition UnmodifiedSince) (map (written_condition f) all_conditions) refl

-- what the members say of a condition is what the filter has of it
said_back : (f : FilterParts) (condition : Condition) → IsValueOfKind (sort_of_condition condition) (asked_of condition f) → said_of condition (present (map (written_condition f) all_conditions)) ≡ asked_of condition f
said_back f condition h = ap (read_of_sort (sort_of_condition condition)) (there f condition) ∙ value_back (sort_of_condition condition) (asked_of condition f) h

-- the filter is read from what is written of it
pub filter_back : (f : FilterParts) → IsFilterOfKinds f → filter_in (members_in (written_filter f)) ≡ f
filter_back f kinds =
    let crb = said_back f CreatedBefore (of_condition IsValueOfKind f kinds CreatedBefore) in
    let cra = said_back f CreatedAfter (of_condition IsValueOfKind f kinds CreatedAfter) in
    let ms = said_back f ModifiedSince (of_condition IsValueOfKind f kinds ModifiedSince) in
    let us = said_back f UnmodifiedSince (of_condition IsValueOfKind f kinds UnmodifiedSince) in
    let sts = said_back f StateTagSmaller tt in
    let stb = said_back f StateTagBigger tt in
    let exb = said_back f ExpireBefore (of_condition IsValueOfKind f kinds ExpireBefore) in
    let exa = said_back f ExpireAfter (of_condition IsValueOfKind f kinds ExpireAfter) in
    let lbl = said_back f OneLabel (of_condition IsValueOfKind f kinds OneLabel) in
    let ty = said_back f OneType (of_condition IsValueOfKind f kinds OneType) in
    let sza = said_back f SizeAbove tt in
    let szb = said_back f SizeBelow tt in
    let fu = said_back f Usage tt in
    let lim = said_back f Limit tt in
    ap filter_in (members_in-object_of (map (written_condition f) all_conditions))
    ∙ (λ i. record { crb = crb i; cra = cra i; ms = ms i; us = us i; sts = sts i; stb = stb i; exb = exb i; exa = exa i; lbl = lbl i; ty = ty i; sza = sza i; szb = szb i; fu = fu i; lim = lim i })

-- ---- and it is an object of conditions

fits_moment : (at : Option ℕ) → IfSome at IsMoment → IfSome (option_map moment_data at) (λ d. is_some (read_moment d) ≡ true)
fits_moment None h = tt
fits_moment (Some at) h = ap is_some (moment_back at h)

fits_count : (n : Option ℕ) → IfSome (option_map count_data n) (λ d. is_some (as_count d) ≡ true)
fits_count None = tt
fits_count (Some n) = refl

fits_usage : (u : Option FilterUsage) → IfSome (option_map (λ usage. number (usage_number usage)) u) (λ d. is_some (read_usage d) ≡ true)
fits_usage None = tt
fits_usage (Some u) = ap is_some (usage_back u)

value_fits : (sort : Sort) (v : ValueOf sort) → IsValueOfKind sort v → IfSome (written_of_sort sort v) (λ d. is_of sort d ≡ true)
value_fits Moment at h = fits_moment at h
value_fits Count n h = fits_count n
value_fits Labels labels h = list_passes text is_label_text is_label (λ s h. h) labels h
value_fits Types types h = list_passes count_data is_type_number (λ d. is_some (read_type_number d)) (λ n h. ap is_some (where_kept is_type_number n h)) types h
value_fits Use usage h = fits_usage usage

each_fits : (f : FilterParts) → IsFilterOfKinds f → (condition : Condition) → IfSome (condition_value f condition) (λ d. is_condition (name_of_condition condition, d) ≡ true)
each_fits f kinds CreatedAfter = value_fits Moment f.cra (of_condition IsValueOfKind f kinds CreatedAfter)
each_fits f kinds CreatedBefore = value_fits Moment f.crb (of_condition IsValueOfKind f kinds CreatedBefore)
each_fits f kinds ExpireAfter = value_fits Moment f.exa (of_condition IsValueOfKind f kinds ExpireAfter)
each_fits f kinds ExpireBefore = value_fits Moment f.exb (of_condition IsValueOfKind f kinds ExpireBefore)
each_fits f kinds Usage = value_fits Use f.fu tt
each_fits f kinds OneLabel = value_fits Labels f.lbl (of_condition IsValueOfKind f kinds OneLabel)
each_fits f kinds Limit = value_fits Count f.lim tt
each_fits f kinds ModifiedSince = value_fits Moment f.ms (of_condition IsValueOfKind f kinds ModifiedSince)
each_fits f kinds StateTagBigger = value_fits Count f.stb tt
each_fits f kinds StateTagSmaller = value_fits Count f.sts tt
each_fits f kinds SizeAbove = value_fits Count f.sza tt
each_fits f kinds SizeBelow = value_fits Count f.szb tt
each_fits f kinds OneType = value_fits Types f.ty (of_condition IsValueOfKind f kinds OneType)
each_fits f kinds UnmodifiedSince = value_fits Moment f.us (of_condition IsValueOfKind f kinds UnmodifiedSince)

pub filter_fits : (f : FilterParts) → IsFilterOfKinds f → is_filter (written_filter f) ≡ true
filter_fits f kinds =
    ap (list_all is_condition) (entries-pairs_of (present (map (written_condition f) all_conditions)))
    ∙ all_pass is_condition (map (written_condition f) all_conditions) (all_rows is_condition (written_condition f) (each_fits f kinds) all_conditions)

-- ---- what is read is of its kinds

all_of_kind : {A : Type 0} (read : Data → Option A) (test : A → Bool) → ((d : Data) → IfSome (read d) (λ a. test a ≡ true)) → (o : Option Data) → list_all test (option_map_or (all_of read) o []) ≡ true
all_of_kind read test each None = refl
all_of_kind read test each (Some d) = each_passes read test each (alternatives d)

read_of_kind : (sort : Sort) (d : Option Data) → IsValueOfKind sort (read_of_sort sort d)
read_of_kind Moment d = passes_along IsMoment read_moment moment_last d
read_of_kind Count d = tt
read_of_kind Labels d = all_of_kind label_of is_label_text (λ d. where_passes is_label_text (as_text d)) d
read_of_kind Types d = all_of_kind read_type_number is_type_number (λ d. where_passes is_type_number (as_count d)) d
read_of_kind Use d = tt

pub filter_of_kinds : (es : List Entry) → IsFilterOfKinds (filter_in es)
filter_of_kinds es =
    let moment = λ (condition : Condition). read_of_kind Moment (value_for condition es) in
    (moment CreatedAfter, (moment CreatedBefore, (moment ExpireAfter, (moment ExpireBefore, (tt, (read_of_kind Labels (value_for OneLabel es), (tt, (moment ModifiedSince, (tt, (tt, (tt, (tt, (read_of_kind Types (value_for OneType es), (moment UnmodifiedSince, tt))))))))))))))
