use Rattle.std.proofs.Common.{◌≡◌}
use Rattle.std.specs.Vec.Iter.{into_iter_items}
use Rattle.attribute_rules.specs.Contents.{clear_all}
use Rattle.create_delete.proofs.editing.clear_all.Given as goal

-- what is left to be cleared, cleared in what there is, gives what all gives
abbrev pub invariant-loop-attr : goal.invariant-loop-attr
invariant-loop-attr l = clear_all (into_iter_items l.attr-iterator) l.attrs ≡ clear_all l.fn.clears l.fn.attrs
