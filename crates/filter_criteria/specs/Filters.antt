-- What a filter keeps.
use Rattle.std.specs.Prelude.{IfSome, IsUtf8}
use Rattle.std.specs.List.{AllByRecursion}
use Rattle.filter_criteria.specs.Bounds.{IsMoment, IsCount}
use Rattle.filter_criteria.specs.Conditions.{ValueOf, OfEachCondition}
use Rattle.filter_criteria.specs.declared.condition.Sort.{Sort}
use Rattle.filter_criteria.specs.declared.condition.Sort.TheVariants.{Moment, Count, Labels, Types}
use Rattle.filter_criteria.specs.declared.condition.Sort.TheVariants.{Use}
use Rattle.filter_criteria.specs.declared.filter.FilterParts.{FilterParts}

-- moments are those of timestamps, numbers counts, and labels UTF-8 (TS-0001, 8.1.2)
abbrev pub IsSoundValue : (sort : Sort) → ValueOf sort → Type 0
IsSoundValue Moment at = IfSome at IsMoment
IsSoundValue Count n = IfSome n IsCount
IsSoundValue Labels labels = AllByRecursion IsUtf8 labels
IsSoundValue Types types = AllByRecursion IsCount types
IsSoundValue Use usage = Unit {0}

-- so it is with what the filter has of each condition
abbrev pub IsSoundFilter : FilterParts → Type 0
IsSoundFilter f = OfEachCondition IsSoundValue f
