use Rattle.std.proofs.Common.{◌≡◌, drop, map}
use Rattle.tree_model.specs.Shown.{with_rows}
use Rattle.announce_copy.specs.Announced.{renewed_row}
use Rattle.announce_copy.proofs.contents.add_renewed.Given as goal

-- what has been set so far, with what is left to be set, is all
abbrev pub invariant-loop-attr : goal.invariant-loop-attr
invariant-loop-attr l =
    with_rows (map (renewed_row l.resource) (drop l.attr-index l.all)) l.attrs
    ≡ with_rows (map (renewed_row l.resource) l.all) l.fn.attrs
