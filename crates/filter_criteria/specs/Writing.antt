-- Filters as values (TS-0004, 8.2.5): the conditions that are there, in byte order of their names.
use Rattle.std.specs.Prelude.{List, [], ◌∷◌, map, Option, Some, None, option_map}
use Rattle.m2m_value.specs.Data.{Data, number, text, list, elements_of}
use Rattle.filter_criteria.specs.Conditions.{ValueOf, all_conditions, asked_of}
use Rattle.filter_criteria.specs.Conditions.{name_of_condition, sort_of_condition}
pub use Rattle.filter_criteria.specs.Conditions.{usage_number}
use Rattle.filter_criteria.specs.Values.{NamedValue, object_of, count_data, moment_data}
use Rattle.filter_criteria.specs.declared.condition.Condition.{Condition}
use Rattle.filter_criteria.specs.declared.condition.Sort.{Sort}
use Rattle.filter_criteria.specs.declared.condition.Sort.TheVariants.{Moment, Count, Labels, Types}
use Rattle.filter_criteria.specs.declared.condition.Sort.TheVariants.{Use}
use Rattle.filter_criteria.specs.declared.filter.FilterParts.{FilterParts}

-- a list with an element at least
abbrev pub filled_list : List Data → Option Data
filled_list [] = None
filled_list (d ∷ ds) = Some (list (elements_of (d ∷ ds)))

-- what is written of what a filter has of a condition of each sort
abbrev pub written_of_sort : (sort : Sort) → ValueOf sort → Option Data
written_of_sort Moment at = option_map moment_data at
written_of_sort Count n = option_map count_data n
written_of_sort Labels labels = filled_list (map text labels)
written_of_sort Types types = filled_list (map count_data types)
written_of_sort Use usage = option_map (λ u. number (usage_number u)) usage

-- what is written of a condition
abbrev pub condition_value : FilterParts → Condition → Option Data
condition_value f condition = written_of_sort (sort_of_condition condition) (asked_of condition f)

-- A condition's short name with what is written of it.
abbrev pub written_condition : FilterParts → Condition → NamedValue
written_condition f condition = (name_of_condition condition, condition_value f condition)

-- The JSON object that a filter is written as: the conditions that are given, in byte order of
-- their names (TS-0004, 8.2.5).
abbrev pub written_filter : FilterParts → Data
written_filter f = object_of (map (written_condition f) all_conditions)
