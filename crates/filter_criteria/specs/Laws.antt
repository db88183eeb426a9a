-- What is read as a filter is of its kinds, and is read back from the value that is written of it.
use Rattle.std.specs.Prelude.{◌≡◌, ℕ, Bool, ◌&&◌, IsTrue, IfSome, List}
use Rattle.std.specs.List.{list_all}
use Rattle.m2m_names.specs.Types.{is_type_number}
use Rattle.m2m_value.specs.Data.{Entry}
use Rattle.m2m_value.specs.Shapes.{is_label_text}
use Rattle.filter_criteria.specs.Bounds.{IsMoment}
use Rattle.filter_criteria.specs.Conditions.{ValueOf, OfEachCondition, is_filter, filter_in}
use Rattle.filter_criteria.specs.Values.{members_in}
use Rattle.filter_criteria.specs.Writing.{written_filter}
use Rattle.filter_criteria.specs.declared.condition.Sort.{Sort}
use Rattle.filter_criteria.specs.declared.condition.Sort.TheVariants.{Moment, Count, Labels, Types}
use Rattle.filter_criteria.specs.declared.condition.Sort.TheVariants.{Use}
use Rattle.filter_criteria.specs.declared.filter.FilterParts.{FilterParts}

-- labels are of their kind, and types are numbers of types
abbrev pub are_labels : List (List ℕ) → Bool
are_labels labels = list_all is_label_text labels

abbrev pub are_type_numbers : List ℕ → Bool
are_type_numbers types = list_all is_type_number types

-- The labels and the types of a filter are of their kinds.
abbrev pub are_fit_conditions : FilterParts → Bool
are_fit_conditions f = are_labels f.lbl && are_type_numbers f.ty

-- what a filter has of a condition of each sort is of its kind: a moment is that of a timestamp
abbrev pub IsValueOfKind : (sort : Sort) → ValueOf sort → Type 0
IsValueOfKind Moment at = IfSome at IsMoment
IsValueOfKind Count n = Unit {0}
IsValueOfKind Labels labels = IsTrue (are_labels labels)
IsValueOfKind Types types = IsTrue (are_type_numbers types)
IsValueOfKind Use usage = Unit {0}

-- each condition of the filter is of its kind
abbrev pub IsFilterOfKinds : FilterParts → Type 0
IsFilterOfKinds f = OfEachCondition IsValueOfKind f

-- the filter that members make is of its kinds
abbrev pub FiltersAreOfKinds : Type 0
FiltersAreOfKinds = (es : List Entry) → IsFilterOfKinds (filter_in es)

-- what is written of a filter of its kinds is an object of conditions
abbrev pub WrittenFiltersAreFilters : Type 0
WrittenFiltersAreFilters =
    (f : FilterParts) → IsFilterOfKinds f → IsTrue (is_filter (written_filter f))

-- What is written of a filter is read as that filter.
abbrev pub FiltersAreReadBack : Type 0
FiltersAreReadBack =
    (f : FilterParts) → IsFilterOfKinds f → filter_in (members_in (written_filter f)) ≡ f
