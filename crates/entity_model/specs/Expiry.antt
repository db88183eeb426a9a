-- What is due, and what an expiry tells.
use Rattle.std.specs.Prelude.{ℕ, Bool, List}
use Rattle.std.specs.List.{list_any}
use Rattle.resource_model.specs.Resource.{ResourceData}
use Rattle.tree_model.specs.Changes.{ChangeData, removal_changes}
use Rattle.tree_model.specs.Tree.{is_due, overdue_numbers}

-- something is due at a moment
abbrev pub is_some_due : List ResourceData → ℕ → Bool
is_some_due nodes moment = list_any (is_due nodes moment) nodes

-- the changes that an expiry at a moment makes, which come before those of the event: what is gone
-- by it, in order of creation
abbrev pub expiry_changes : ℕ → List ResourceData → List ChangeData
expiry_changes moment nodes = removal_changes nodes (overdue_numbers moment nodes)
