-- The conditions of a filter on a resource, as a table (TS-0001, 8.1.2; TS-0004, 8.2.5).
use Rattle.std.specs.Prelude.{ℕ, ◌==◌, nat_le, nat_lt, Bool, true, false, ◌||◌, List}
use Rattle.std.specs.Prelude.{length, Option, Some, None, option_and_then}
use Rattle.std.specs.Prelude.{if◌then◌else◌}
use Rattle.std.specs.List.{list_all, list_any}
use Rattle.std.specs.Option.{option_map_or}
use Rattle.m2m_names.specs.Types.{ty_row}
use Rattle.m2m_names.specs.declared.attributes.Attr.TheVariants.{Cs, Lbl, St}
use Rattle.m2m_names.specs.declared.types.Ty.TheVariants.{ContentInstance}
use Rattle.m2m_value.specs.Data.{Data}
use Rattle.m2m_value.specs.View.{as_list, as_text}
use Rattle.filter_criteria.specs.Conditions.{all_conditions, asked_of}
use Rattle.filter_criteria.specs.declared.filter.FilterParts.{FilterParts}
use Rattle.resource_model.specs.Attributes.{count_at, value_of}
use Rattle.resource_model.specs.Resource.{ResourceData, is_ty}
use Rattle.tree_model.specs.Tree.{due, same_text}
use Rattle.filter_criteria.specs.declared.condition.Condition.{Condition}
use Rattle.filter_criteria.specs.declared.condition.Condition.TheVariants.{CreatedAfter}
use Rattle.filter_criteria.specs.declared.condition.Condition.TheVariants.{CreatedBefore}
use Rattle.filter_criteria.specs.declared.condition.Condition.TheVariants.{ExpireAfter}
use Rattle.filter_criteria.specs.declared.condition.Condition.TheVariants.{ExpireBefore, Limit}
use Rattle.filter_criteria.specs.declared.condition.Condition.TheVariants.{ModifiedSince}
use Rattle.filter_criteria.specs.declared.condition.Condition.TheVariants.{OneLabel, OneType}
use Rattle.filter_criteria.specs.declared.condition.Condition.TheVariants.{SizeAbove, SizeBelow}
use Rattle.filter_criteria.specs.declared.condition.Condition.TheVariants.{StateTagBigger}
use Rattle.filter_criteria.specs.declared.condition.Condition.TheVariants.{StateTagSmaller}
use Rattle.filter_criteria.specs.declared.condition.Condition.TheVariants.{UnmodifiedSince, Usage}

-- ---- bounds: where one is given, the resource has a value, and it stands so to the bound

-- The value is there and lies below the bound. Where no bound is given, this always holds (TS-0004,
-- 8.2.5).
abbrev pub is_under_bound : Option ℕ → Option ℕ → Bool
is_under_bound None value = true
is_under_bound (Some bound) value = option_map_or (λ n. nat_lt n bound) value false

-- The value is there and lies above the bound. Where no bound is given, this always holds (TS-0004,
-- 8.2.5).
abbrev pub is_over_bound : Option ℕ → Option ℕ → Bool
is_over_bound None value = true
is_over_bound (Some bound) value = option_map_or (λ n. nat_lt bound n) value false

-- The value is there and is the bound or lies above it. Where no bound is given, this always holds
-- (TS-0004, 8.2.5).
abbrev pub is_from_bound : Option ℕ → Option ℕ → Bool
is_from_bound None value = true
is_from_bound (Some bound) value = option_map_or (λ n. nat_le bound n) value false

-- ---- what a resource has

-- the size of a content instance in bytes; no other resource has one
abbrev pub size_in : ResourceData → Option ℕ
size_in r = if is_ty r.ty ContentInstance then count_at Cs r.attrs else None

-- The value is this label, as a text.
abbrev pub is_that_label : List ℕ → Data → Bool
is_that_label label d = same_text (as_text d) (Some label)

-- The resource has the label (TS-0001, 9.6.1.3).
abbrev pub has_label : ResourceData → List ℕ → Bool
has_label r label =
    option_map_or (list_any (is_that_label label)) (option_and_then as_list (value_of Lbl r.attrs))
    false

-- where labels are given, it has one of them
abbrev pub has_one_of : List (List ℕ) → ResourceData → Bool
has_one_of labels r = (length labels == 0) || list_any (has_label r) labels

-- where types are given, its own is one of them
abbrev pub is_of_one : List ℕ → ResourceData → Bool
is_of_one types r = (length types == 0) || list_any (λ n. n == (ty_row r.ty).number) types

-- ---- the table

-- What has to hold of a resource of the list for a condition of the filter; a condition that isn't
-- given always holds. How a filter is used, and how much it asks for, is none on a resource.
abbrev pub holds : Condition → List ResourceData → FilterParts → ResourceData → Bool
holds CreatedBefore nodes f r = is_under_bound (asked_of CreatedBefore f) (Some r.ct)
holds CreatedAfter nodes f r = is_over_bound (asked_of CreatedAfter f) (Some r.ct)
holds ModifiedSince nodes f r = is_over_bound (asked_of ModifiedSince f) (Some r.lt)
holds UnmodifiedSince nodes f r = is_under_bound (asked_of UnmodifiedSince f) (Some r.lt)
holds StateTagSmaller nodes f r =
    is_under_bound (asked_of StateTagSmaller f) (count_at St r.attrs)
holds StateTagBigger nodes f r = is_over_bound (asked_of StateTagBigger f) (count_at St r.attrs)
holds ExpireBefore nodes f r = is_under_bound (asked_of ExpireBefore f) (due nodes r)
holds ExpireAfter nodes f r = is_over_bound (asked_of ExpireAfter f) (due nodes r)
holds OneLabel nodes f r = has_one_of (asked_of OneLabel f) r
holds OneType nodes f r = is_of_one (asked_of OneType f) r
holds SizeAbove nodes f r = is_from_bound (asked_of SizeAbove f) (size_in r)
holds SizeBelow nodes f r = is_under_bound (asked_of SizeBelow f) (size_in r)
holds Usage nodes f r = true
holds Limit nodes f r = true

-- the resource meets all conditions of the filter
abbrev pub meets : List ResourceData → FilterParts → ResourceData → Bool
meets nodes f r = list_all (λ condition. holds condition nodes f r) all_conditions

-- The resource meets all conditions, where there is a filter.
abbrev pub meets_any : List ResourceData → Option FilterParts → ResourceData → Bool
meets_any nodes filter r = option_map_or (λ f. meets nodes f r) filter true
