use Rattle.std.proofs.Common.{◌≡◌, take}
use Rattle.std.specs.List.{AllByRecursion, filter_map}
use Rattle.filter_criteria.specs.Bounds.{IsCount}
use Rattle.filter_criteria.specs.Values.{read_type_number}
use Rattle.filter_criteria.proofs.reading.types_of.Given as goal

abbrev pub invariant-loop-part : goal.invariant-loop-part
invariant-loop-part l = record {
  value : l.numbers.items ≡ filter_map read_type_number (take l.part-index l.parts);
  counts : AllByRecursion IsCount l.numbers.items;
}
