-- The changes that an operation makes, one after another: what subscriptions and announced
-- resources are told of (TS-0001, 9.6.8 and 9.6.26).
use Rattle.std.specs.Prelude.{ℕ, not, List, [], ◌∷◌, ◌++◌, map, filter, Option, Some, None}
use Rattle.std.specs.List.{filter_map}
use Rattle.std.specs.Option.{option_map_or}
use Rattle.m2m_names.specs.Attributes.{attr_of_short}
use Rattle.m2m_names.specs.declared.attributes.Attr.{Attr}
use Rattle.m2m_names.specs.declared.operations.Op.{Op}
use Rattle.m2m_names.specs.declared.operations.Op.TheVariants.{Create, Retrieve, Update, Delete}
use Rattle.m2m_names.specs.declared.operations.Op.TheVariants.{Notify}
use Rattle.m2m_value.specs.Data.{Entry}
use Rattle.primitive_json.specs.declared.request.RequestParts.{RequestParts}
use Rattle.resource_model.specs.Resource.{ResourceData}
pub use Rattle.tree_model.specs.Changes.{ChangeData, created, updated, deleted, change_of, those_of}
pub use Rattle.tree_model.specs.Changes.{first_of, those_below, creation_changes, update_changes}
pub use Rattle.tree_model.specs.Changes.{deletion_changes}
use Rattle.tree_model.specs.Tree.{at, has}
pub use Rattle.tree_model.specs.Tree.{is_at_or_below}
use Rattle.entity_model.specs.Entity.{EntityData}
use Rattle.request_rules.specs.Order.{fault_at}
use Rattle.request_rules.specs.Requests.{named_by}
use Rattle.create_delete.specs.Changing.{effect_at}

-- what stands in the first list alone, in order of creation
abbrev pub only_in : List ResourceData → List ResourceData → List ResourceData
only_in nodes others = filter (λ r. not (has r.number others)) nodes

-- the attributes of which these are the values
abbrev pub attrs_of : List Entry → List Attr
attrs_of es = filter_map (λ e. attr_of_short e.0) es

-- the attributes that an Update of the resource names
abbrev pub named_attrs : RequestParts → ResourceData → List Attr
named_attrs request r = attrs_of (named_by Update request r)

-- the change of a resource that was the first and is the second
abbrev pub update_made : RequestParts → Option ResourceData → Option ResourceData
    → List ChangeData
update_made request (Some r) (Some s) = updated r s (named_attrs request r) ∷ []
update_made request (Some r) None = []
update_made request None after = []

-- The changes by which the second entity comes of the first, where the operation on the resource of
-- the number is done: the new resource, or the one that was updated; then what is gone, in order of
-- creation. So a target comes before what stood below it, and instances that were pushed out come
-- the oldest first. That a new instance stamps its container anew is no change of that.
abbrev pub changes_by : Op → RequestParts → ℕ → EntityData → EntityData → List ChangeData
changes_by Create request n before after =
    map created (only_in after.nodes before.nodes)
    ++ map deleted (only_in before.nodes after.nodes)
changes_by Retrieve request n before after = []
changes_by Update request n before after =
    update_made request (at n before.nodes) (at n after.nodes)
    ++ map deleted (only_in before.nodes after.nodes)
changes_by Delete request n before after = map deleted (only_in before.nodes after.nodes)
changes_by Notify request n before after = []

-- the changes of an operation; one that is refused makes none
abbrev pub changes_at : Op → EntityData → List ℕ → RequestParts → ℕ → List ChangeData
changes_at op e originator request n =
    option_map_or (λ fault. []) (fault_at op e originator request n)
    (changes_by op request n e (effect_at op e originator request n).after)
