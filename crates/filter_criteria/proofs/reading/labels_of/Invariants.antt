use Rattle.std.proofs.Common.{◌≡◌, ◌++◌, IsUtf8}
use Rattle.std.specs.List.{AllByRecursion, filter_map}
use Rattle.std.specs.Vec.Iter.{into_iter_items}
use Rattle.filter_criteria.specs.Conditions.{label_of, alternatives}
use Rattle.filter_criteria.proofs.reading.labels_of.Given as goal

-- the labels so far, and those of what is left, are the labels of all
abbrev pub invariant-loop-part : goal.invariant-loop-part
invariant-loop-part l = record {
  value : l.texts.items ++ filter_map label_of (into_iter_items l.part-iterator) ≡ filter_map label_of (alternatives l.fn.value);
  utf8 : AllByRecursion IsUtf8 l.texts.items;
}
