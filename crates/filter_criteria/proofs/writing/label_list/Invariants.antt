use Rattle.std.proofs.Common.{◌≡◌, map, take}
use Rattle.m2m_value.specs.Data.{text}
use Rattle.filter_criteria.proofs.writing.label_list.Given as goal

abbrev pub invariant-loop-label : goal.invariant-loop-label
invariant-loop-label l = l.values.items ≡ map text (take l.label-index l.labels)
