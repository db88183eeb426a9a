use Rattle.std.proofs.Common.{◌≡◌, map, take}
use Rattle.filter_criteria.specs.Values.{count_data}
use Rattle.filter_criteria.proofs.writing.type_list.Given as goal

abbrev pub invariant-loop-number : goal.invariant-loop-number
invariant-loop-number l = l.values.items ≡ map count_data (take l.number-index l.types)
