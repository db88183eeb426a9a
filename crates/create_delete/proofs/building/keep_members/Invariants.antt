use Rattle.std.proofs.Common.{◌≡◌, drop}
use Rattle.tree_model.specs.Shown.{with_rows}
use Rattle.create_delete.proofs.building.keep_members.Given as goal

-- what is left to be put in, put into what there is, gives what all gives
abbrev pub invariant-loop-attr : goal.invariant-loop-attr
invariant-loop-attr l = with_rows (drop l.attr-index l.members) l.attrs ≡ with_rows l.members l.fn.attrs
