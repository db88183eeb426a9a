-- What a tree with an index keeps beside its list.
use Rattle.std.specs.Prelude.{◌≡◌, List, true}
use Rattle.resource_model.specs.Resource.{ResourceData}
use Rattle.tree_model.specs.Tree.{is_tree}
use Rattle.resource_dues.specs.Dues.{HasDues}
use Rattle.resource_tree.specs.Index.{HasKin}
use Rattle.resource_names.specs.Names.{IsNamed}
use Rattle.resource_dues.specs.declared.dues.Dues.{Dues}
use Rattle.resource_tree.specs.declared.kin.Kin.{Kin}
use Rattle.resource_names.specs.declared.named.Named.{Named}

-- the list is a tree, the queues are its own, the names find its resources, and of each is told
-- when it is due
pub record IsIndexed (nodes : List ResourceData) (kin : Kin) (named : Named) (dues : Dues)
    : Type 0 where
  pub tree : is_tree nodes ≡ true
  pub queues : HasKin nodes kin
  pub names : IsNamed nodes named
  pub told : HasDues nodes dues
