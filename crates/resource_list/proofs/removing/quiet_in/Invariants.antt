use Rattle.std.proofs.Common.{◌≡◌, take, true}
use Rattle.std.specs.List.{list_all}
use Rattle.tree_model.specs.Tree.{is_quiet}
use Rattle.resource_list.proofs.removing.quiet_in.Given as goal

-- none of those so far is due before the moment
abbrev pub invariant-loop-at : goal.invariant-loop-at
invariant-loop-at l = list_all (is_quiet l.resources l.quiet) (take l.at l.resources) ≡ true
