use Rattle.std.proofs.Common.{◌≡◌, map, take}
use Rattle.filter_criteria.specs.Conditions.{all_conditions}
use Rattle.filter_criteria.specs.Values.{present}
use Rattle.filter_criteria.specs.Writing.{written_condition}
use Rattle.filter_criteria.proofs.writing.write_filter.Given as goal

abbrev pub invariant-loop-condition : goal.invariant-loop-condition
invariant-loop-condition l = l.entries.items ≡ present (map (written_condition l.filter) (take l.condition-index all_conditions))
