use Rattle.std.proofs.Common.{◌≡◌}
use Rattle.std.specs.Vec.Iter.{into_iter_items}
use Rattle.attribute_rules.specs.Contents.{set_all}
use Rattle.create_delete.proofs.editing.set_all.Given as goal

-- what is left to be set, set in what there is, gives what all gives
abbrev pub invariant-loop-attr : goal.invariant-loop-attr
invariant-loop-attr l = set_all (into_iter_items l.attr-iterator) l.attrs ≡ set_all l.fn.sets l.fn.attrs
